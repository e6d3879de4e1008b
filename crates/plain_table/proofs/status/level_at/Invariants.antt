use Rattle.std.proofs.Common.{◌≡◌, drop}
use Rattle.lock_queue.specs.Queue.{wants_at}
use Rattle.lock_queue.specs.StatusWords.{first_level}
use Rattle.plain_table.proofs.status.level_at.Given as goal

abbrev pub invariant-loop-r : goal.invariant-loop-r
invariant-loop-r l = first_level (wants_at (drop l.r-index l.requests) l.key) ≡ first_level (wants_at l.requests l.key)
