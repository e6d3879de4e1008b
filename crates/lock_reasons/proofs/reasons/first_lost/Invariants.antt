use Rattle.std.proofs.Common.{◌≡◌, [], take, drop}
use Rattle.lock_reasons.specs.Reasons.{lost_behind}
use Rattle.lock_reasons.proofs.reasons.first_lost.Given as goal

abbrev pub invariant-loop-i : goal.invariant-loop-i
invariant-loop-i l =
    lost_behind (take l.i l.requests) (take l.i l.after) (drop l.i l.requests) (drop l.i l.after)
    ≡ lost_behind [] [] l.requests l.after
