use Rattle.std.proofs.Common.{◌<◌, ◌≤◌, ◌∙◌, sym, arith}
use Rattle.std.specs.List.{list_any}
use Rattle.lock_queue.specs.Jobs.{waits_for}
use Rattle.lock_queue.specs.Waits.{is_in_circle, jobs}
use Rattle.wait_graph.proofs.JobLemmas.{any-start, any-step, any-found, any-end}
use Rattle.wait_graph.proofs.PairLemmas.{circle_in}
use Rattle.wait_graph.specs.declared.pairs.TheConstants.{NUMBERS}
use Rattle.run_notes.proofs.circle_lines.has_circle.Goals as goal

pub loop-job-init : goal.loop-job-init
loop-job-init c = any-start (is_in_circle (waits_for c.args.machine.now.world.requests))

pub returns-then-is_in_circle : goal.returns-then-is_in_circle
returns-then-is_in_circle c =
    let requests = c.args.machine.now.world.requests in
    let f = is_in_circle (waits_for requests) in
    let within : c.loop-job.job < NUMBERS = omega arith in
    any-found f c.loop-job.job (list_any f jobs) within
    (sym (circle_in c.pair_table-pairs.result requests c.loop-job.job c.pair_table-pairs.ensures.pairs within)
    ∙ sym c.is_in_circle.ensures ∙ c.if-is_in_circle.true) c.loop-job.invariant

pub loop-job-preserved : goal.loop-job-preserved
loop-job-preserved c =
    let requests = c.args.machine.now.world.requests in
    let f = is_in_circle (waits_for requests) in
    let within : c.loop-job.job < NUMBERS = omega arith in
    any-step f c.loop-job.job (list_any f jobs) within
    (sym (circle_in c.pair_table-pairs.result requests c.loop-job.job c.pair_table-pairs.ensures.pairs within)
    ∙ sym c.is_in_circle.ensures ∙ c.if-is_in_circle.false) c.loop-job.invariant

pub returns : goal.returns
returns c =
    let f = is_in_circle (waits_for c.args.machine.now.world.requests) in
    let end : NUMBERS ≤ c.loop-job.job = omega arith in
    any-end f c.loop-job.job (list_any f jobs) end c.loop-job.invariant
