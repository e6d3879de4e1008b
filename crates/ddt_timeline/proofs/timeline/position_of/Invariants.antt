use Rattle.std.proofs.Common.{◌≡◌, ◌+◌, take}
use Rattle.ddt_timeline.specs.Timelines.{steps_in}
use Rattle.ddt_timeline.proofs.timeline.position_of.Given as goal

abbrev pub invariant-loop-i : goal.invariant-loop-i
invariant-loop-i l = steps_in (take l.i l.entries) + l.left ≡ l.steps
