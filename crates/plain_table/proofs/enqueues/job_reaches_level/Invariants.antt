use Rattle.std.proofs.Common.{◌≡◌, drop, nat_le}
use Rattle.std.specs.List.{list_any}
use Rattle.lock_queue.specs.Queue.{wants_of}
use Rattle.plain_table.proofs.enqueues.job_reaches_level.Given as goal

abbrev pub invariant-loop-r : goal.invariant-loop-r
invariant-loop-r l =
    list_any (λ v. nat_le l.level v.level) (wants_of (drop l.r-index l.requests) l.job)
    ≡ list_any (λ v. nat_le l.level v.level) (wants_of l.requests l.job)
