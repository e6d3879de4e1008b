use Rattle.std.proofs.Common.{◌≡◌, length}
use Rattle.std.specs.Option.{option_map_or}
use Rattle.queue_script.specs.Locks.{locks_of, refused_with}
use Rattle.queue_script.specs.declared.locks.StoreOutcome.TheVariants as outcome
use Rattle.queue_script.proofs.call_wants.refuse.Given as goal

abbrev pub invariant-loop-item : goal.invariant-loop-item
invariant-loop-item l =
    option_map_or (refused_with l.count l.why) (locks_of l.items) outcome.NoLock
    ≡ option_map_or (refused_with l.first l.why) (locks_of l.initial.items) outcome.NoLock

abbrev pub decreases-loop-item : goal.decreases-loop-item
decreases-loop-item l = length l.items
