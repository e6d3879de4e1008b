use Rattle.std.proofs.Common.{◌≡◌, ◌++◌, take, drop, map}
use Rattle.ddt_timeline.specs.Stops.{noted}
use Rattle.ddt_timeline.proofs.stops.note_stood.Given as goal

abbrev pub invariant-loop-one : goal.invariant-loop-one
invariant-loop-one l = take l.one-index l.stops ++ map (noted l.machine) (drop l.one-index l.stops) ≡ map (noted l.machine) l.initial.stops
