use Rattle.std.proofs.Common.{◌<◌, ◌≤◌, ◌∙◌, sym, arith, ap, not}
use Rattle.std.specs.List.{list_any}
use Rattle.lock_queue.specs.Waits.{jobs}
use Rattle.wait_graph.proofs.JobLemmas.{any-start, any-step, any-found, any-end}
use Rattle.wait_graph.specs.declared.pairs.TheConstants.{NUMBERS}
use Rattle.wait_graph.specs.Graphs.{has_wait}
use Rattle.wait_graph.proofs.graph.Graph.is_empty.Goals as goal

pub loop-job-init : goal.loop-job-init
loop-job-init c = any-start (has_wait c.args.self.now)

pub returns-then-has : goal.returns-then-has
returns-then-has c =
    let f = has_wait c.args.self.now in
    let within : c.loop-job.job < NUMBERS = omega arith in
    ap not (any-found f c.loop-job.job (list_any f jobs) within (sym c.has.ensures ∙ c.if-has.true) c.loop-job.invariant)

pub loop-job-preserved : goal.loop-job-preserved
loop-job-preserved c =
    let f = has_wait c.args.self.now in
    let within : c.loop-job.job < NUMBERS = omega arith in
    any-step f c.loop-job.job (list_any f jobs) within (sym c.has.ensures ∙ c.if-has.false) c.loop-job.invariant

pub returns : goal.returns
returns c =
    let f = has_wait c.args.self.now in
    let end : NUMBERS ≤ c.loop-job.job = omega arith in
    ap not (any-end f c.loop-job.job (list_any f jobs) end c.loop-job.invariant)
