use Rattle.std.proofs.Common.{◌≡◌, [], take, drop}
use Rattle.lock_queue.specs.Waits.{is_withheld_from}
use Rattle.lock_queue.specs.Queue.{some_behind}
use Rattle.wait_graph.proofs.in_the_way.waits_hard_for.Given as goal

abbrev pub invariant-loop-i : goal.invariant-loop-i
invariant-loop-i l =
    some_behind (is_withheld_from l.job l.owner) (take l.i l.requests) (drop l.i l.requests)
    ≡ some_behind (is_withheld_from l.job l.owner) [] l.requests
