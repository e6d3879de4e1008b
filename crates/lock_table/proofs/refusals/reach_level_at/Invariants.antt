use Rattle.std.proofs.Common.{◌≡◌, drop, nat_le}
use Rattle.std.specs.List.{list_any}
use Rattle.lock_queue.specs.Queue.{all_wants}
use Rattle.lock_table.specs.Reads.{requests_at}
use Rattle.lock_table.proofs.refusals.reach_level_at.Given as goal

abbrev pub invariant-loop-p : goal.invariant-loop-p
invariant-loop-p g l =
    list_any (λ v. nat_le l.level v.level) (all_wants (requests_at l.store (drop l.p-index l.slots)))
    ≡ list_any (λ v. nat_le l.level v.level) (all_wants (requests_at l.store l.slots))
