use Rattle.std.proofs.Common.{◌≡◌, ◌+◌, ◌++◌, drop, map}
use Rattle.std.specs.List.{flat_map}
use Rattle.ddt_moves.specs.RunStops.{causes_from, stop_at, watched}
use Rattle.ddt_moves.proofs.run_stops.RunStops.add_breakpoints.Given as goal

abbrev pub invariant-loop-i : goal.invariant-loop-i
invariant-loop-i l = record {
  stops :
      l.self.stops.items ++ map watched (flat_map stop_at (drop l.i l.breakpoints))
      ≡ l.initial.self.stops.items ++ map watched (flat_map stop_at l.breakpoints);
  causes :
      l.self.causes.items ++ causes_from (l.i + 1) (drop l.i l.breakpoints)
      ≡ l.initial.self.causes.items ++ causes_from 1 l.breakpoints;
}
