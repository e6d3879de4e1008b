-- What was taken so far and the room that is left are the room beside the own amount.
use Rattle.std.proofs.Common.{◌≡◌, ◌+◌, drop, sum_by}
use Rattle.lock_queue.specs.Queue.{amount_of, wants_at}
use Rattle.lock_queue.proofs.granting.is_room.Given as goal

abbrev pub invariant-loop-r : goal.invariant-loop-r
invariant-loop-r l =
    l.left + sum_by amount_of (wants_at l.earlier l.key) + l.fn.pool.amount
    ≡ l.fn.pool.size + sum_by amount_of (wants_at (drop l.r-index l.earlier) l.key)
