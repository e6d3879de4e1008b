use Rattle.std.proofs.Common.{◌≡◌, drop}
use Rattle.lock_reasons.specs.Reasons.{first_unfit}
use Rattle.lock_reasons.proofs.ways.first_unfit.Given as goal

abbrev pub invariant-loop-w : goal.invariant-loop-w
invariant-loop-w l = first_unfit l.requests (drop l.w-index l.wants) ≡ first_unfit l.requests l.wants
