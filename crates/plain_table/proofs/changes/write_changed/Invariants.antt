use Rattle.std.proofs.Common.{◌≡◌, take, map}
use Rattle.lock_queue.specs.Changes.{changed}
use Rattle.plain_table.proofs.changes.write_changed.Given as goal

abbrev pub invariant-loop-r : goal.invariant-loop-r
invariant-loop-r g l = l.later ≡ map (changed l.job l.changes) (take l.r-index l.requests)
