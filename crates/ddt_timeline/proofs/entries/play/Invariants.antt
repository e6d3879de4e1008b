use Rattle.std.proofs.Common.{◌≡◌, drop}
use Rattle.ddt_timeline.specs.Timelines.{played}
use Rattle.ddt_timeline.proofs.entries.play.Given as goal

-- what is left leads where all of it does
abbrev pub invariant-loop-i : goal.invariant-loop-i
invariant-loop-i l = played (drop l.i l.entries) l.machine ≡ played l.entries l.fn.machine
