use Rattle.std.proofs.Common.{◌≡◌, [], take, drop}
use Rattle.lock_reasons.specs.Reasons.{fault, first_fault}
use Rattle.lock_reasons.proofs.faults.first_fault.Given as goal

abbrev pub invariant-loop-i : goal.invariant-loop-i
invariant-loop-i l =
    first_fault (fault l.check l.requests l.job) (take l.i l.wants) (drop l.i l.wants)
    ≡ first_fault (fault l.check l.requests l.job) [] l.wants
