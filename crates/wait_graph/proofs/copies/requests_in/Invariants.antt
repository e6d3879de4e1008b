use Rattle.std.proofs.Common.{◌≡◌, take}
use Rattle.wait_graph.proofs.copies.requests_in.Given as goal

abbrev pub invariant-loop-i : goal.invariant-loop-i
invariant-loop-i g l = l.requests.items ≡ take l.i (g.L.LockTable.requests l.table)
