-- The requests before the index are changed, and the others will be.
use Rattle.std.proofs.Common.{◌≡◌, ◌++◌, take, drop, map}
use Rattle.lock_queue.specs.Dequeues.{without_keys_of}
use Rattle.plain_table.proofs.dequeues.remove_keys_of.Given as goal

abbrev pub invariant-loop-r : goal.invariant-loop-r
invariant-loop-r l =
    take l.r-index l.requests ++ map (without_keys_of l.job l.named) (drop l.r-index l.requests)
    ≡ map (without_keys_of l.job l.named) l.initial.requests
