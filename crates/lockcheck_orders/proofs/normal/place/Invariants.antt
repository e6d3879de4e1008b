use Rattle.lockcheck_orders.specs.Placing.{IsPlacing}
use Rattle.lockcheck_orders.proofs.normal.place.Given as goal

abbrev pub invariant-loop-j : goal.invariant-loop-j
invariant-loop-j l = IsPlacing l.desk l.q l.order l.j l.place

abbrev pub decreases-loop-j : goal.decreases-loop-j
decreases-loop-j l = l.j
