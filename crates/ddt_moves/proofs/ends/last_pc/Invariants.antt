use Rattle.std.proofs.Common.{◌≡◌, None, length}
use Rattle.ddt_timeline.specs.Views.{history}
use Rattle.ddt_moves.specs.Replays.{machine_in, to_come}
use Rattle.ddt_moves.specs.Turns.{states_before, states_in}
use Rattle.ddt_moves.proofs.TurnLemmas.{pc_after}
use Rattle.ddt_moves.proofs.ends.last_pc.Given as goal

abbrev pub invariant-loop-replay : goal.invariant-loop-replay
invariant-loop-replay l =
    pc_after l.job (states_before (to_come l.replay) (machine_in l.replay)) l.last
    ≡ pc_after l.job (states_in (history l.timeline)) None

abbrev pub decreases-loop-replay : goal.decreases-loop-replay
decreases-loop-replay l = length (to_come l.replay)
