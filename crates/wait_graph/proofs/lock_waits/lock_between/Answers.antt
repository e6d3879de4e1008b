use Rattle.std.proofs.Common.{◌≡◌, ◌≤◌, [], false, length, take, arith, rules}
use Rattle.lock_queue.specs.Queue.{some_behind}
use Rattle.wait_graph.specs.LockWaits.{is_kept_from}
use Rattle.wait_graph.proofs.KeeperLemmas.{behind_end, kept_by_none, none_further, rest_further}
use Rattle.wait_graph.proofs.lock_waits.lock_between.Goals as goal

pub returns-clause-none : goal.returns-clause-none
returns-clause-none c =
    let requests = c.args.requests.now in
    let is_held = c.waits_by-is_held.result in
    let end : length requests ≤ c.loop-position.position = omega arith in
    λ _. kept_by_none is_held requests c.args.job c.args.other c.waits_by-is_held.ensures
    (behind_end (is_kept_from is_held c.args.job c.args.other) (take c.loop-position.position requests) requests c.loop-position.position end c.loop-position.invariant.rest)

pub loop-position-preserved : goal.loop-position-preserved
loop-position-preserved c =
    let requests = c.args.requests.now in
    let test = is_kept_from c.waits_by-is_held.result c.args.job c.args.other in
    let i = c.loop-position.position in
    let fails : test (take i requests) c.index-requests-position.result ≡ false = search rules in
    record {
      rest = rest_further test requests i c.index-requests-position.result (some_behind test [] requests) c.loop-position-test.true
          c.index-requests-position.is fails c.loop-position.invariant.rest;
      before = none_further test requests i c.index-requests-position.result c.loop-position-test.true c.index-requests-position.is fails
          c.loop-position.invariant.before;
    }
