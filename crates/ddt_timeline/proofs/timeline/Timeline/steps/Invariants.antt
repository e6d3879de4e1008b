use Rattle.std.proofs.Common.{◌≡◌, ◌≤◌, ◌+◌, drop, min}
use Rattle.ddt_timeline.specs.Timelines.{steps_in}
use Rattle.ddt_timeline.proofs.timeline.Timeline.steps.Given as goal

-- with those that are left they are all
abbrev pub invariant-loop-entry : goal.invariant-loop-entry
invariant-loop-entry l = record {
  count :
      min 18446744073709551615 (l.steps + steps_in (drop l.entry-index l.entry-items))
      ≡ min 18446744073709551615 (l.self.part + steps_in l.entry-items);
  fits : l.steps ≤ 18446744073709551615;
}
