use Rattle.std.proofs.Common.{◌≡◌, drop, filter}
use Rattle.std.specs.List.{list_any}
use Rattle.lock_queue.specs.Keys.{same_key}
use Rattle.lock_queue.specs.StatusWords.{is_exclusive}
use Rattle.lock_queue.proofs.status_steps.is_exclusive_at.Given as goal

abbrev pub invariant-loop-w : goal.invariant-loop-w
invariant-loop-w l =
    list_any is_exclusive (filter (λ w. same_key w.key l.key) (drop l.w-index l.wants))
    ≡ list_any is_exclusive (filter (λ w. same_key w.key l.key) l.wants)
