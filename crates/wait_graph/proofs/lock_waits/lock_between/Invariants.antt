use Rattle.std.proofs.Common.{◌≡◌, [], false, take, drop}
use Rattle.lock_queue.specs.Queue.{some_behind}
use Rattle.wait_graph.specs.LockWaits.{is_kept_from}
use Rattle.wait_graph.proofs.lock_waits.lock_between.Given as goal

abbrev pub invariant-loop-position : goal.invariant-loop-position
invariant-loop-position l = record {
  rest : some_behind (is_kept_from l.is_held l.job l.other) (take l.position l.requests) (drop l.position l.requests)
      ≡ some_behind (is_kept_from l.is_held l.job l.other) [] l.requests;
  before : some_behind (is_kept_from l.is_held l.job l.other) [] (take l.position l.requests) ≡ false;
}
