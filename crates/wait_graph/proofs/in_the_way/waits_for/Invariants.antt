use Rattle.std.proofs.Common.{◌≡◌, [], take, drop}
use Rattle.lock_queue.specs.Jobs.{is_blocked_by}
use Rattle.lock_queue.specs.Queue.{some_behind}
use Rattle.wait_graph.proofs.in_the_way.waits_for.Given as goal

abbrev pub invariant-loop-i : goal.invariant-loop-i
invariant-loop-i l =
    some_behind (is_blocked_by l.job l.other) (take l.i l.requests) (drop l.i l.requests)
    ≡ some_behind (is_blocked_by l.job l.other) [] l.requests
