use Rattle.std.proofs.Common.{◌≡◌, is_some, length}
use Rattle.queue_script.specs.Locks.{locks_of}
use Rattle.queue_script.proofs.commands.are_locks.Given as goal

abbrev pub invariant-loop-item : goal.invariant-loop-item
invariant-loop-item l = is_some (locks_of l.items) ≡ is_some (locks_of l.initial.items)

abbrev pub decreases-loop-item : goal.decreases-loop-item
decreases-loop-item l = length l.items
