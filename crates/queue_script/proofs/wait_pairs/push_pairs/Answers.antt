use Rattle.std.proofs.Common.{◌++◌, ◌<◌, ◌≤◌, ℕ, arith}
use Rattle.std.specs.List.{flat_map}
use Rattle.lock_queue.specs.Waits.{jobs}
use Rattle.wait_graph.specs.Pairs.{pair_in}
use Rattle.queue_script.specs.WaitPairs.{pair_line}
use Rattle.wait_graph.proofs.JobLemmas.{lists-start, lists-step, lists-end}
use Rattle.wait_graph.specs.declared.pairs.TheConstants.{NUMBERS}
use Rattle.queue_script.proofs.wait_pairs.push_pairs.Goals as goal

pub loop-job-init : goal.loop-job-init
loop-job-init c =
    let waits = pair_in c.args.pairs.now in
    lists-start (λ j. flat_map (pair_line waits j) jobs) c.args.out.now.items

pub loop-job-preserved : goal.loop-job-preserved
loop-job-preserved c =
    let waits = pair_in c.args.pairs.now in
    let lines = λ (j : ℕ). flat_map (pair_line waits j) jobs in
    let within : c.loop-job.job < NUMBERS = omega arith in
    lists-step lines c.loop-job.job c.loop-job.out.items c.push_pairs_of.new.out.items
    (c.args.out.now.items ++ flat_map lines jobs) within c.in_ok-push_pairs_of.ensures c.loop-job.invariant

pub returns : goal.returns
returns c =
    let waits = pair_in c.args.pairs.now in
    let lines = λ (j : ℕ). flat_map (pair_line waits j) jobs in
    let end : NUMBERS ≤ c.loop-job.job = omega arith in
    lists-end lines c.loop-job.job c.loop-job.out.items (c.args.out.now.items ++ flat_map lines jobs) end c.loop-job.invariant
