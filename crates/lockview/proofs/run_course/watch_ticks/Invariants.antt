use Rattle.std.proofs.Common.{◌≡◌, ◌≤◌, ◌-◌}
use Rattle.lockview.specs.Rounds.{passed}
use Rattle.lockview.proofs.run_course.watch_ticks.Given as goal

abbrev pub invariant-ticks : goal.invariant-ticks
invariant-ticks l = record {
  within : l.done ≤ l.count;
  machine : l.machine ≡ passed l.repeated l.done l.initial.machine;
  lines : l.seen.lines ≡ l.initial.seen.lines;
  waits : l.seen.waits ≡ l.initial.seen.waits;
}

abbrev pub decreases-ticks : goal.decreases-ticks
decreases-ticks l = l.count - l.done
