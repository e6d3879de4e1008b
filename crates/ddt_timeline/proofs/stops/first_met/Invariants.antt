use Rattle.std.proofs.Common.{◌≡◌, ◌+◌, drop}
use Rattle.std.specs.List.{position_or_len}
use Rattle.ddt_timeline.specs.Stops.{is_met_at}
use Rattle.ddt_timeline.proofs.stops.first_met.Given as goal

abbrev pub invariant-loop-i : goal.invariant-loop-i
invariant-loop-i l =
    l.i + position_or_len (is_met_at l.machine l.ran) (drop l.i l.stops)
    ≡ position_or_len (is_met_at l.machine l.ran) l.stops
