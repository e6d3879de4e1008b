use Rattle.std.proofs.Common.{◌≡◌, length, map}
use Rattle.ddt_timeline.specs.Views.{history}
use Rattle.ddt_moves.specs.Replays.{machine_in, to_come}
use Rattle.ddt_moves.specs.Visits.{behind, behind_all}
use Rattle.ddt_moves.proofs.visits.see_past.Given as goal

abbrev pub invariant-loop-counters : goal.invariant-loop-counters
invariant-loop-counters l =
    map (behind_all (to_come l.replay) (machine_in l.replay)) l.counters ≡ map (behind (history l.timeline)) l.initial.counters

abbrev pub decreases-loop-counters : goal.decreases-loop-counters
decreases-loop-counters l = length (to_come l.replay)
