use Rattle.std.proofs.Common.{◌≡◌, drop}
use Rattle.run_events.specs.Grants.{is_present}
use Rattle.run_events.proofs.grants.is_present.Given as goal

abbrev pub invariant-loop-i : goal.invariant-loop-i
invariant-loop-i g l =
    is_present (drop l.i (g.L.LockTable.requests l.locks)) l.old ≡ is_present (g.L.LockTable.requests l.locks) l.old
