use Rattle.std.proofs.Common.{◌≡◌, [], false, take, drop}
use Rattle.lock_queue.specs.Queue.{some_behind}
use Rattle.wait_graph.specs.LockWaits.{is_kept_waiting, waits_for_owner}
use Rattle.wait_graph.proofs.lock_waits.lock_wait.Given as goal

abbrev pub invariant-loop-i : goal.invariant-loop-i
invariant-loop-i l = record {
  rest : some_behind (is_kept_waiting (waits_for_owner l.requests l.job) l.requests l.job) (take l.i l.requests) (drop l.i l.requests)
      ≡ some_behind (is_kept_waiting (waits_for_owner l.requests l.job) l.requests l.job) [] l.requests;
  before : some_behind (is_kept_waiting (waits_for_owner l.requests l.job) l.requests l.job) [] (take l.i l.requests) ≡ false;
}
