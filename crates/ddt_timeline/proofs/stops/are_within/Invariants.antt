use Rattle.std.specs.List.{list_all}
use Rattle.std.proofs.Common.{◌≡◌, drop}
use Rattle.ddt_timeline.specs.Stops.{is_within}
use Rattle.ddt_timeline.proofs.stops.are_within.Given as goal

abbrev pub invariant-loop-one : goal.invariant-loop-one
invariant-loop-one l = list_all (is_within l.addresses) (drop l.one-index l.stops) ≡ list_all (is_within l.addresses) l.stops
