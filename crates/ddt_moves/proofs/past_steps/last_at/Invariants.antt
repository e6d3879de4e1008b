use Rattle.std.proofs.Common.{◌≡◌, None, length}
use Rattle.ddt_timeline.specs.Views.{history}
use Rattle.ddt_moves.specs.Replays.{machine_in, steps_made, stood, to_come}
use Rattle.ddt_moves.proofs.ReplayLemmas.{found}
use Rattle.ddt_moves.proofs.past_steps.last_at.Given as goal

abbrev pub invariant-loop-address : goal.invariant-loop-address
invariant-loop-address l =
    found (stood l.job l.address) (to_come l.replay) (steps_made l.replay) (machine_in l.replay) l.last
    ≡ found (stood l.job l.address) (history l.timeline).past 0 (history l.timeline).boot None

abbrev pub decreases-loop-address : goal.decreases-loop-address
decreases-loop-address l = length (to_come l.replay)
