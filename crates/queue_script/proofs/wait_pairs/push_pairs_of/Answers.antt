use Rattle.std.proofs.Common.{◌++◌, ◌<◌, ◌≤◌, arith}
use Rattle.std.specs.List.{flat_map}
use Rattle.lock_queue.specs.Waits.{jobs}
use Rattle.wait_graph.specs.Pairs.{pair_in}
use Rattle.queue_script.specs.WaitPairs.{pair_line}
use Rattle.wait_graph.proofs.JobLemmas.{lists-start, lists-step, lists-end}
use Rattle.queue_script.proofs.PairLemmas.{no_lines}
use Rattle.wait_graph.specs.declared.pairs.TheConstants.{NUMBERS}
use Rattle.queue_script.proofs.wait_pairs.push_pairs_of.Goals as goal

pub returns-then-not-waiting-job : goal.returns-then-not-waiting-job
returns-then-not-waiting-job c =
    no_lines c.args.waiting.now (pair_in c.args.pairs.now) c.args.job c.args.out.now.items c.requires.marked c.requires.job c.if-not-waiting-job.true

pub loop-other-init : goal.loop-other-init
loop-other-init c = lists-start (pair_line (pair_in c.args.pairs.now) c.args.job) c.args.out.now.items

pub loop-other-preserved : goal.loop-other-preserved
loop-other-preserved c =
    let line = pair_line (pair_in c.args.pairs.now) c.args.job in
    let within : c.loop-other.other < NUMBERS = omega arith in
    lists-step line c.loop-other.other c.loop-other.out.items c.push_pair.new.out.items
    (c.args.out.now.items ++ flat_map line jobs) within c.in_ok-push_pair.ensures c.loop-other.invariant

pub returns : goal.returns
returns c =
    let line = pair_line (pair_in c.args.pairs.now) c.args.job in
    let end : NUMBERS ≤ c.loop-other.other = omega arith in
    lists-end line c.loop-other.other c.loop-other.out.items (c.args.out.now.items ++ flat_map line jobs) end c.loop-other.invariant
