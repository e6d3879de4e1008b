use Rattle.std.proofs.Common.{◌≡◌, drop}
use Rattle.std.specs.List.{list_all}
use Rattle.lock_queue.specs.Enqueues.{are_alike}
use Rattle.lock_queue.specs.Queue.{wants_at}
use Rattle.plain_table.proofs.enqueues.are_all_alike.Given as goal

abbrev pub invariant-loop-r : goal.invariant-loop-r
invariant-loop-r l =
    list_all (λ v. are_alike v l.w) (wants_at (drop l.r-index l.requests) l.w.key)
    ≡ list_all (λ v. are_alike v l.w) (wants_at l.requests l.w.key)
