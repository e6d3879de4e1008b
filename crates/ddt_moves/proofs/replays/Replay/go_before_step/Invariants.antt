use Rattle.std.proofs.Common.{◌≡◌, ◌+◌, length}
use Rattle.ddt_moves.specs.Replays.{before_step, from_step, machine_in, steps_made, to_come}
use Rattle.ddt_moves.proofs.replays.Replay.go_before_step.Given as goal

abbrev pub invariant-loop-self : goal.invariant-loop-self
invariant-loop-self l =
    (from_step (to_come l.self) ≡ from_step (to_come l.initial.self))
    × (before_step (to_come l.self) (machine_in l.self) ≡ before_step (to_come l.initial.self) (machine_in l.initial.self))
    × (steps_made l.self ≡ steps_made l.initial.self)

abbrev pub decreases-loop-self : goal.decreases-loop-self
decreases-loop-self l = length l.self.entries.now + l.self.part
