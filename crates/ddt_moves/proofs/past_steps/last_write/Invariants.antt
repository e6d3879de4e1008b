use Rattle.std.proofs.Common.{◌≡◌, None, length}
use Rattle.ddt_timeline.specs.Views.{history}
use Rattle.ddt_moves.specs.Replays.{machine_in, steps_made, changes, to_come}
use Rattle.ddt_moves.proofs.ReplayLemmas.{found}
use Rattle.ddt_moves.proofs.past_steps.last_write.Given as goal

abbrev pub invariant-loop-replay : goal.invariant-loop-replay
invariant-loop-replay l =
    found (changes l.job l.address) (to_come l.replay) (steps_made l.replay) (machine_in l.replay) l.last
    ≡ found (changes l.job l.address) (history l.timeline).past 0 (history l.timeline).boot None

abbrev pub decreases-loop-replay : goal.decreases-loop-replay
decreases-loop-replay l = length (to_come l.replay)
