use Rattle.std.proofs.Common.{◌≡◌}
use Rattle.ddt_timeline.specs.Timelines.{ticked_so_often}
use Rattle.ddt_timeline.proofs.entries.tick.Given as goal

-- so many ticks have gone by
abbrev pub invariant-loop-i : goal.invariant-loop-i
invariant-loop-i l = l.machine ≡ ticked_so_often l.i l.fn.machine
