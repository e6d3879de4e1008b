use Rattle.std.proofs.Common.{◌≡◌, drop}
use Rattle.lock_reasons.specs.Reasons.{by_present}
use Rattle.lock_reasons.proofs.faults.by_present.Given as goal

abbrev pub invariant-loop-r : goal.invariant-loop-r
invariant-loop-r l = by_present l.rule l.w (drop l.r-index l.requests) ≡ by_present l.rule l.w l.requests
