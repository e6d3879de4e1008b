use Rattle.std.proofs.Common.{◌≡◌, ◌∙◌, ℕ, ap, arith}
use Rattle.lockview.specs.Rounds.{passed}
use Rattle.lockview.proofs.RoundLemmas.{passed_further}
use Rattle.lockview.proofs.run_reasons.note_steps.Goals as goal

pub steps-preserved : goal.steps-preserved
steps-preserved c = record {
  within = omega (arith, c.in_ok-steps.ensures.most);
  machine =
      passed_further c.args.repeated c.steps.done c.in_ok-steps.steps.made c.args.machine.now c.steps.machine c.make_steps.new.machine
      c.make_tick.new.machine c.steps.invariant.machine c.in_ok-steps.ensures.least c.in_ok-steps.ensures.state
      c.in_ok-facts.ensures.state;
}

pub steps-smaller : goal.steps-smaller
steps-smaller c = omega (arith, c.in_ok-steps.ensures.least, c.in_ok-steps.ensures.most)

pub returns : goal.returns
returns c =
    let whole : c.steps.done ≡ c.args.count = omega arith in
    c.steps.invariant.machine ∙ ap (λ (n : ℕ). passed c.args.repeated n c.args.machine.now) whole
