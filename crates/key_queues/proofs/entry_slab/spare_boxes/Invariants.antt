use Rattle.std.proofs.Common.{◌≡◌, ◌≤◌, length, vec_capacity}
use Rattle.key_queues.proofs.entry_slab.spare_boxes.Given as goal

abbrev pub invariant-loop : goal.invariant-loop
invariant-loop l = (length l.spare.items ≡ l.counter) × (l.count ≤ vec_capacity l.spare)
