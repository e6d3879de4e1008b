use Rattle.std.proofs.Common.{◌≡◌, drop}
use Rattle.lock_queue.specs.Queue.{names, wants_of}
use Rattle.lock_reasons.proofs.faults.has_want.Given as goal

abbrev pub invariant-loop-r : goal.invariant-loop-r
invariant-loop-r l = names (wants_of (drop l.r-index l.requests) l.job) l.key ≡ names (wants_of l.requests l.job) l.key
