use Rattle.std.proofs.Common.{◌≡◌, take}
use Rattle.std.specs.List.{IsDistinct}
use Rattle.kept_parts.specs.SameRequests.{same_request}
use Rattle.state_search.specs.Parts.{AreGrown, AreNumbers}
use Rattle.job_orders.specs.Tables.{requests_in}
use Rattle.job_orders.proofs.packing.number_requests.Given as goal

abbrev pub invariant-loop-i : goal.invariant-loop-i
invariant-loop-i g l =
    (requests_in l.table l.numbers.items ≡ take l.i (g.L.LockTable.requests l.locks)) × AreNumbers l.table l.numbers.items
    × AreGrown l.initial.table l.table × (IsDistinct same_request l.initial.table → IsDistinct same_request l.table)
