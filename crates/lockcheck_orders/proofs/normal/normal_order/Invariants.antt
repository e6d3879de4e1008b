use Rattle.std.proofs.Common.{◌≡◌, ◌<◌, length, take}
use Rattle.std.specs.List.{All}
use Rattle.lock_order_laws.specs.Normal.{normal}
use Rattle.lockcheck_orders.specs.Placing.{in_order}
use Rattle.lockcheck_orders.proofs.normal.normal_order.Given as goal

abbrev pub invariant-loop-i : goal.invariant-loop-i
invariant-loop-i l =
    let requests = l.desk in
    record {
      value : in_order requests l.order.items ≡ normal (take l.i requests);
      within : All (λ k. k < length requests) l.order.items;
    }
