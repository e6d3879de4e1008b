-- What was taken so far and the room that is left are the room.
use Rattle.std.proofs.Common.{◌≡◌, ◌+◌, drop, filter, sum_by}
use Rattle.lock_queue.specs.Keys.{same_key}
use Rattle.lock_queue.specs.Queue.{amount_of}
use Rattle.lock_queue.proofs.among_wants.room_beside.Given as goal

abbrev pub invariant-loop-v : goal.invariant-loop-v
invariant-loop-v l =
    l.left + sum_by amount_of (filter (λ v. same_key v.key l.key) l.wants)
    ≡ l.room + sum_by amount_of (filter (λ v. same_key v.key l.key) (drop l.v-index l.wants))
