use Rattle.std.proofs.Common.{◌≡◌, ◌++◌, drop}
use Rattle.lock_queue.specs.Changes.{with_changes}
use Rattle.lock_reasons.proofs.reasons.with_changes.Given as goal

abbrev pub invariant-loop-r : goal.invariant-loop-r
invariant-loop-r l =
    l.after.items ++ with_changes (drop l.r-index l.requests) l.job l.changes ≡ with_changes l.requests l.job l.changes
