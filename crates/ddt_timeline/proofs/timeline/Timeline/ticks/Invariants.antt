use Rattle.std.proofs.Common.{◌≡◌, ◌≤◌, ◌+◌, drop, min}
use Rattle.ddt_timeline.specs.Timelines.{ticks_in}
use Rattle.ddt_timeline.proofs.timeline.Timeline.ticks.Given as goal

-- with those that are left they are all
abbrev pub invariant-loop-entry : goal.invariant-loop-entry
invariant-loop-entry l = record {
  count :
      min 18446744073709551615 (l.ticks + ticks_in (drop l.entry-index l.entry-items))
      ≡ min 18446744073709551615 (l.self.part + ticks_in l.entry-items);
  fits : l.ticks ≤ 18446744073709551615;
}
