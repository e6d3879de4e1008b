use Rattle.std.proofs.Common.{◌≡◌, take, drop}
use Rattle.lock_queue.specs.Changes.{some_lost, some_lost_behind}
use Rattle.plain_table.proofs.changes.is_some_lost.Given as goal

abbrev pub invariant-loop-i : goal.invariant-loop-i
invariant-loop-i l =
    some_lost_behind (take l.i l.requests) (take l.i l.later) (drop l.i l.requests) (drop l.i l.later)
    ≡ some_lost l.requests l.later
