use Rattle.std.proofs.Common.{◌≡◌, ◌++◌, drop}
use Rattle.lock_bars.specs.Holds.{holds_from, holds_of}
use Rattle.lock_bars.proofs.holds.holds_in.Given as goal

abbrev pub invariant-loop-i : goal.invariant-loop-i
invariant-loop-i g l =
    let requests = g.L.LockTable.requests l.table in
    l.holds.items ++ holds_from requests l.i (drop l.i requests) ≡ holds_of requests
