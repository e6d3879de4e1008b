use Rattle.std.proofs.Common.{◌++◌, ◌<◌, ◌≤◌, arith}
use Rattle.std.specs.List.{flat_map}
use Rattle.lock_queue.specs.Waits.{jobs}
use Rattle.wait_graph.specs.Pairs.{pair_in}
use Rattle.queue_script.specs.WaitPairs.{circle_job}
use Rattle.wait_graph.proofs.JobLemmas.{lists-start, lists-step, lists-end}
use Rattle.wait_graph.specs.declared.pairs.TheConstants.{NUMBERS}
use Rattle.queue_script.proofs.wait_pairs.push_circle_jobs.Goals as goal

pub loop-job-init : goal.loop-job-init
loop-job-init c = lists-start (circle_job (pair_in c.args.pairs.now)) c.args.out.now.items

pub loop-job-preserved : goal.loop-job-preserved
loop-job-preserved c =
    let f = circle_job (pair_in c.args.pairs.now) in
    let within : c.loop-job.job < NUMBERS = omega arith in
    lists-step f c.loop-job.job c.loop-job.out.items c.push_circle_job.new.out.items (c.args.out.now.items ++ flat_map f jobs)
    within c.in_ok-push_circle_job.ensures c.loop-job.invariant

pub returns : goal.returns
returns c =
    let f = circle_job (pair_in c.args.pairs.now) in
    let end : NUMBERS ≤ c.loop-job.job = omega arith in
    lists-end f c.loop-job.job c.loop-job.out.items (c.args.out.now.items ++ flat_map f jobs) end c.loop-job.invariant
