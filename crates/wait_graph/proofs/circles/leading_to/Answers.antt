use Rattle.std.proofs.Common.{◌≡◌, ◌<◌, ◌∙◌, arith, false, refl, sym, ap}
use Rattle.std.specs.Prelude.{replicate}
use Rattle.lock_queue.specs.Waits.{leads_to}
use Rattle.wait_graph.specs.Pairs.{pair_in}
use Rattle.wait_graph.proofs.PairLemmas.{all-false, leads-end, leads-start, leads-step, same-bools}
use Rattle.wait_graph.specs.declared.pairs.TheConstants.{NUMBERS}
use Rattle.word36.specs.declared.sizes.TheConstants.{JOBS}
use Rattle.wait_graph.proofs.circles.leading_to.Goals as goal

pub loop-steps-init : goal.loop-steps-init
loop-steps-init c = λ j h. all-false (replicate NUMBERS false) j refl ∙ sym (leads-start (pair_in c.args.pairs.now) j c.args.target)

pub loop-steps-preserved : goal.loop-steps-preserved
loop-steps-preserved c = λ j h.
    c.lead_further-further.ensures j h ∙ leads-step (pair_in c.args.pairs.now) c.loop-steps.reached c.loop-steps.steps c.args.target c.loop-steps.invariant j

pub returns-then-eq : goal.returns-then-eq
returns-then-eq c =
    let below : c.loop-steps.steps < JOBS = omega arith in
    let same = same-bools c.lead_further-further.result c.loop-steps.reached (sym c.eq.ensures ∙ c.if-eq.true) in
    leads-end (pair_in c.args.pairs.now) c.loop-steps.reached c.lead_further-further.result c.loop-steps.steps c.args.target below
    c.loop-steps.invariant c.lead_further-further.ensures same

pub returns : goal.returns
returns c =
    let end : c.loop-steps.steps ≡ JOBS = omega arith in
    λ j h. c.loop-steps.invariant j h ∙ ap (λ n. leads_to (pair_in c.args.pairs.now) n j c.args.target) end
