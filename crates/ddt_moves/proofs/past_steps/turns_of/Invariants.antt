use Rattle.std.proofs.Common.{◌≡◌, ◌≤◌, ◌++◌, length}
use Rattle.ddt_moves.specs.Replays.{machine_in, steps_made, to_come}
use Rattle.ddt_moves.specs.Turns.{kept, last_of, states_before, turns_from}
use Rattle.ddt_moves.proofs.past_steps.turns_of.Given as goal

abbrev pub invariant-loop-replay : goal.invariant-loop-replay
invariant-loop-replay l = record {
  all :
      last_of l.most (kept l.turns ++ turns_from l.job (steps_made l.replay) (states_before (to_come l.replay) (machine_in l.replay)))
      ≡ last_of l.most
      (turns_from l.job (steps_made l.initial.replay) (states_before (to_come l.initial.replay) (machine_in l.initial.replay)));
  few : length (kept l.turns) ≤ l.most;
}

abbrev pub decreases-loop-replay : goal.decreases-loop-replay
decreases-loop-replay l = length (to_come l.replay)
