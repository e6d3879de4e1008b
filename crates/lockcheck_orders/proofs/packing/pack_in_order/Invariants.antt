use Rattle.std.proofs.Common.{◌≡◌, take, map}
use Rattle.std.specs.List.{IsDistinct}
use Rattle.state_search.specs.Parts.{AreGrown, AreNumbers}
use Rattle.lockcheck_orders.specs.Packing.{packed_request}
use Rattle.lockcheck_orders.specs.Placing.{request_at}
use Rattle.lockcheck_orders.specs.Same.{same_request}
use Rattle.lockcheck_orders.specs.Tables.{forms_at}
use Rattle.lockcheck_orders.proofs.packing.pack_in_order.Given as goal

abbrev pub invariant-loop-i : goal.invariant-loop-i
invariant-loop-i l =
    (forms_at l.requests l.numbers.items ≡ map (λ k. packed_request l.lines (request_at l.desk k)) (take l.i-index l.order))
    × AreNumbers l.requests l.numbers.items × AreGrown l.initial.requests l.requests
    × (IsDistinct same_request l.initial.requests → IsDistinct same_request l.requests)
