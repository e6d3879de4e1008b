use Rattle.std.proofs.Common.{◌≡◌, ◌+◌, drop}
use Rattle.std.specs.List.{position_or_len}
use Rattle.key_queues.specs.LockUse.{is_free}
use Rattle.key_queues.proofs.keys.first_free.Given as goal

abbrev pub invariant-loop-i : goal.invariant-loop-i
invariant-loop-i l = l.i + position_or_len is_free (drop l.i l.locks) ≡ position_or_len is_free l.locks
