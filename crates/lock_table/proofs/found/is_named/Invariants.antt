use Rattle.std.proofs.Common.{◌≡◌, drop}
use Rattle.lock_queue.specs.Queue.{names}
use Rattle.lock_table.proofs.found.is_named.Given as goal

abbrev pub invariant-loop-i : goal.invariant-loop-i
invariant-loop-i l = names (drop l.i l.wants) l.key ≡ names l.wants l.key
