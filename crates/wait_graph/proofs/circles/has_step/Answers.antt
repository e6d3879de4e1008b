use Rattle.std.proofs.Common.{◌<◌, ◌≤◌, ◌&&◌, ◌∙◌, ℕ, false, slice_index_or, sym, arith}
use Rattle.std.specs.List.{list_any}
use Rattle.lock_queue.specs.Waits.{jobs}
use Rattle.wait_graph.specs.Pairs.{pair_in}
use Rattle.wait_graph.proofs.JobLemmas.{any-start, any-step, any-found, any-end}
use Rattle.wait_graph.specs.declared.pairs.TheConstants.{NUMBERS}
use Rattle.wait_graph.proofs.circles.has_step.Goals as goal

pub loop-other-init : goal.loop-other-init
loop-other-init c = any-start (λ m. pair_in c.args.pairs.now c.args.job m && slice_index_or c.args.reached.now m false)

pub returns-then-is_step : goal.returns-then-is_step
returns-then-is_step c =
    let f = λ (m : ℕ). pair_in c.args.pairs.now c.args.job m && slice_index_or c.args.reached.now m false in
    let within : c.loop-other.other < NUMBERS = omega arith in
    any-found f c.loop-other.other (list_any f jobs) within (sym c.is_step.ensures ∙ c.if-is_step.true) c.loop-other.invariant

pub loop-other-preserved : goal.loop-other-preserved
loop-other-preserved c =
    let f = λ (m : ℕ). pair_in c.args.pairs.now c.args.job m && slice_index_or c.args.reached.now m false in
    let within : c.loop-other.other < NUMBERS = omega arith in
    any-step f c.loop-other.other (list_any f jobs) within (sym c.is_step.ensures ∙ c.if-is_step.false) c.loop-other.invariant

pub returns : goal.returns
returns c =
    let f = λ (m : ℕ). pair_in c.args.pairs.now c.args.job m && slice_index_or c.args.reached.now m false in
    let end : NUMBERS ≤ c.loop-other.other = omega arith in
    any-end f c.loop-other.other (list_any f jobs) end c.loop-other.invariant
