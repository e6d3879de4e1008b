use Rattle.std.proofs.Common.{◌≡◌, ◌+◌, ◌-◌}
use Rattle.std.specs.Prelude.{min}
use Rattle.ddt_timeline.specs.Timelines.{steps_in}
use Rattle.ddt_moves.specs.Replays.{after_steps, behind_steps, machine_in, steps_made, to_come}
use Rattle.ddt_moves.proofs.replays.Replay.skip_to.Given as goal

abbrev pub invariant-loop-self : goal.invariant-loop-self
invariant-loop-self l = record {
  ahead :
      behind_steps (l.steps - steps_made l.self) (to_come l.self)
      ≡ behind_steps (l.steps - steps_made l.initial.self) (to_come l.initial.self);
  there :
      after_steps (l.steps - steps_made l.self) (to_come l.self) (machine_in l.self)
      ≡ after_steps (l.steps - steps_made l.initial.self) (to_come l.initial.self) (machine_in l.initial.self);
  made :
      steps_made l.self + min (l.steps - steps_made l.self) (steps_in (to_come l.self))
      ≡ steps_made l.initial.self + min (l.steps - steps_made l.initial.self) (steps_in (to_come l.initial.self));
}

abbrev pub decreases-loop-self : goal.decreases-loop-self
decreases-loop-self l = l.steps - steps_made l.self
