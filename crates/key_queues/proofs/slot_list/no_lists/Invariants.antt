use Rattle.std.proofs.Common.{◌≡◌, ◌≤◌, [], replicate, vec_capacity}
use Rattle.key_queues.proofs.slot_list.no_lists.Given as goal

abbrev pub invariant-loop : goal.invariant-loop
invariant-loop g l = (l.own.items ≡ replicate l.counter []) × (l.lists ≤ vec_capacity l.own)
