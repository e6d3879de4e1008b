use Rattle.job_orders.specs.Finding.{AreClear, HasCircle, HasEnds, met_at}
use Rattle.job_orders.specs.Systems.{IsReady}
use Rattle.job_orders.proofs.looking.report_on.Given as goal

abbrev pub invariant-loop-position : goal.invariant-loop-position
invariant-loop-position l = record {
  ready : IsReady l.orders.start.state.machine.quantum l.orders.start.state.machine.blocks l.machine;
  clear :
      AreClear l.orders.start.count (met_at l.orders.start l.orders.tables l.kept.states.keys l.kept.origins.items) l.position;
  circle :
      HasCircle l.orders.start.count (met_at l.orders.start l.orders.tables l.kept.states.keys l.kept.origins.items) l.position l.circle;
  ends :
      HasEnds l.orders.start.count (met_at l.orders.start l.orders.tables l.kept.states.keys l.kept.origins.items) l.position l.ends.items;
}
