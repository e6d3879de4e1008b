use Rattle.std.proofs.Common.{◌≡◌, ◌++◌, take, drop}
use Rattle.lock_queue.specs.Enqueues.{some_too_low}
use Rattle.lock_queue.specs.Queue.{wants_of}
use Rattle.plain_table.proofs.enqueues.are_out_of_order.Given as goal

abbrev pub invariant-loop-i : goal.invariant-loop-i
invariant-loop-i l =
    some_too_low (wants_of l.requests l.job ++ take l.i l.wants) (drop l.i l.wants)
    ≡ some_too_low (wants_of l.requests l.job) l.wants
