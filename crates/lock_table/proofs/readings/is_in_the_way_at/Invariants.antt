use Rattle.std.proofs.Common.{◌≡◌, drop}
use Rattle.std.specs.List.{list_any}
use Rattle.lock_queue.specs.Jobs.{is_in_the_way}
use Rattle.lock_queue.specs.Queue.{wants_at, requests_of}
use Rattle.lock_table.specs.Reads.{requests_at}
use Rattle.lock_table.proofs.readings.is_in_the_way_at.Given as goal

abbrev pub invariant-loop-p : goal.invariant-loop-p
invariant-loop-p g l =
    list_any (λ v. is_in_the_way v l.w) (wants_at (requests_of (requests_at l.store (drop l.p-index l.slots)) l.job) l.w.key)
    ≡ list_any (λ v. is_in_the_way v l.w) (wants_at (requests_of (requests_at l.store l.slots) l.job) l.w.key)
