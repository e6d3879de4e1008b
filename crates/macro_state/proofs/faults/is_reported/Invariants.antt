use Rattle.std.proofs.Common.{◌≡◌, drop}
use Rattle.macro_state.specs.Faults.{is_told_at}
use Rattle.macro_state.proofs.faults.is_reported.Given as goal

-- a fault is told at the place if one is told there from here on
abbrev pub invariant-loop-report : goal.invariant-loop-report
invariant-loop-report l = is_told_at (drop l.report-index l.faults) l.place ≡ is_told_at l.faults l.place
