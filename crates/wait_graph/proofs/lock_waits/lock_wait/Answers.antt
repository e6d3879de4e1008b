use Rattle.std.proofs.Common.{◌≡◌, ◌≤◌, [], false, length, take, arith, rules}
use Rattle.lock_queue.specs.Queue.{some_behind}
use Rattle.wait_graph.specs.LockWaits.{is_kept_waiting, waits_for_owner}
use Rattle.wait_graph.proofs.KeeperLemmas.{behind_end, none_further, rest_further, waits_for_nobody}
use Rattle.wait_graph.proofs.lock_waits.lock_wait.Goals as goal

pub returns-clause-none : goal.returns-clause-none
returns-clause-none c =
    let requests = c.args.requests.now in
    let end : length requests ≤ c.loop-i.i = omega arith in
    λ _. waits_for_nobody requests c.args.job
    (behind_end (is_kept_waiting (waits_for_owner requests c.args.job) requests c.args.job)
    (take c.loop-i.i requests) requests c.loop-i.i end c.loop-i.invariant.rest)

pub loop-i-preserved : goal.loop-i-preserved
loop-i-preserved c =
    let requests = c.args.requests.now in
    let test = is_kept_waiting (waits_for_owner requests c.args.job) requests c.args.job in
    let i = c.loop-i.i in
    let fails : test (take i requests) c.index-requests-i.result ≡ false = search rules in
    record {
      rest = rest_further test requests i c.index-requests-i.result (some_behind test [] requests) c.loop-i-test.true
          c.index-requests-i.is fails c.loop-i.invariant.rest;
      before = none_further test requests i c.index-requests-i.result c.loop-i-test.true c.index-requests-i.is fails c.loop-i.invariant.before;
    }
