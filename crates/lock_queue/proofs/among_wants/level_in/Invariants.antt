use Rattle.std.proofs.Common.{◌≡◌, drop, filter}
use Rattle.lock_queue.specs.Keys.{same_key}
use Rattle.lock_queue.specs.StatusWords.{first_level}
use Rattle.lock_queue.proofs.among_wants.level_in.Given as goal

abbrev pub invariant-loop-w : goal.invariant-loop-w
invariant-loop-w l =
    first_level (filter (λ w. same_key w.key l.key) (drop l.w-index l.wants))
    ≡ first_level (filter (λ w. same_key w.key l.key) l.wants)
