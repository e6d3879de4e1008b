use Rattle.std.proofs.Common.{◌≡◌, ◌∙◌, ℕ, Err, IfOk, Ok, Result, ap, arith}
use Rattle.lockview.specs.Rounds.{passed}
use Rattle.lockview.proofs.RoundLemmas.{passed_further}
use Rattle.lockview.proofs.run_course.watch_ticks.Goals as goal

pub ticks-preserved : goal.ticks-preserved
ticks-preserved c = record {
  within = omega (arith, c.in_ok-rounds.ensures.most, c.most_at_once-most.ensures.most);
  machine =
      passed_further c.args.repeated c.ticks.done c.in_ok-rounds.rounds.made c.args.machine.now c.ticks.machine c.make_steps.new.machine
      c.make_tick.new.machine c.ticks.invariant.machine c.in_ok-rounds.ensures.least c.in_ok-rounds.ensures.state c.in_ok-facts.ensures.state;
  lines = c.look_if.ensures.lines ∙ c.ticks.invariant.lines;
  waits = c.look_if.ensures.waits ∙ c.ticks.invariant.waits;
}

pub ticks-smaller : goal.ticks-smaller
ticks-smaller c = omega (arith, c.in_ok-rounds.ensures.least, c.in_ok-rounds.ensures.most, c.most_at_once-most.ensures.most)

-- a fact that holds in any case
if_ok : {X E : Type 0} {P : Type 0} (r : Result X E) → P → IfOk r (λ _. P)
if_ok (Ok x) p = p
if_ok (Err e) p = tt

pub returns-clause-state : goal.returns-clause-state
returns-clause-state c =
    let whole : c.ticks.done ≡ c.args.count = omega arith in
    if_ok c.look_if-2.result
    (c.ticks.invariant.machine ∙ ap (λ (n : ℕ). passed c.args.repeated n c.args.machine.now) whole)
