use Rattle.std.proofs.Common.{◌<◌, ◌≤◌, ◌∙◌, sym, arith}
use Rattle.std.specs.List.{list_any}
use Rattle.lock_queue.specs.Waits.{jobs}
use Rattle.wait_graph.proofs.JobLemmas.{any-start, any-step, any-end}
use Rattle.wait_graph.specs.declared.pairs.TheConstants.{NUMBERS}
use Rattle.wait_graph.specs.Steps.{is_nearer}
use Rattle.wait_graph.proofs.shortest_circles.next_on.Goals as goal

pub loop-other-init : goal.loop-other-init
loop-other-init c = any-start (is_nearer c.args.pairs.now c.args.steps.now c.args.job)

pub loop-other-preserved : goal.loop-other-preserved
loop-other-preserved c =
    let f = is_nearer c.args.pairs.now c.args.steps.now c.args.job in
    let within : c.loop-other.other < NUMBERS = omega arith in
    any-step f c.loop-other.other (list_any f jobs) within (sym c.is_nearer.ensures ∙ c.if-is_nearer.false) c.loop-other.invariant

pub returns-clause-none : goal.returns-clause-none
returns-clause-none c =
    let f = is_nearer c.args.pairs.now c.args.steps.now c.args.job in
    let end : NUMBERS ≤ c.loop-other.other = omega arith in
    λ _. sym (any-end f c.loop-other.other (list_any f jobs) end c.loop-other.invariant)
