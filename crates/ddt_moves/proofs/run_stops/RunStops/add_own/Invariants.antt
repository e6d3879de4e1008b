use Rattle.std.proofs.Common.{◌≡◌, ◌++◌, drop, map}
use Rattle.ddt_moves.specs.RunStops.{cause_of, watched}
use Rattle.ddt_moves.proofs.run_stops.RunStops.add_own.Given as goal

abbrev pub invariant-loop-stop : goal.invariant-loop-stop
invariant-loop-stop l = record {
  stops : l.self.stops.items ++ map watched (drop l.stop-index l.own) ≡ l.initial.self.stops.items ++ map watched l.own;
  causes : l.self.causes.items ++ map (cause_of 0) (drop l.stop-index l.own) ≡ l.initial.self.causes.items ++ map (cause_of 0) l.own;
}
