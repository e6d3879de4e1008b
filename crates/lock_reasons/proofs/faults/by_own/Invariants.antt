use Rattle.std.proofs.Common.{◌≡◌, drop}
use Rattle.lock_queue.specs.Queue.{requests_of}
use Rattle.lock_reasons.specs.Reasons.{by_present}
use Rattle.lock_reasons.proofs.faults.by_own.Given as goal

abbrev pub invariant-loop-r : goal.invariant-loop-r
invariant-loop-r l =
    by_present l.rule l.w (requests_of (drop l.r-index l.requests) l.job)
    ≡ by_present l.rule l.w (requests_of l.requests l.job)
