use Rattle.std.proofs.Common.{◌≡◌, drop}
use Rattle.std.specs.List.{list_all}
use Rattle.lock_queue.specs.Queue.{agree, wants_at}
use Rattle.lock_queue.proofs.granting.all_agree.Given as goal

abbrev pub invariant-loop-r : goal.invariant-loop-r
invariant-loop-r l =
    list_all (λ v. agree v l.w) (wants_at (drop l.r-index l.earlier) l.w.key)
    ≡ list_all (λ v. agree v l.w) (wants_at l.earlier l.w.key)
