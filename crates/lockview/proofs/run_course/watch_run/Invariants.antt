use Rattle.std.proofs.Common.{◌≡◌, ◌≤◌, ◌+◌, is_some, length}
use Rattle.std.specs.Str.Lines.{lines}
use Rattle.lock_bars.specs.Courses.{has_line}
use Rattle.lock_bars.specs.declared.errors.TheConstants.{MOST_LINES}
use Rattle.lockview.specs.Faults.{lines_done}
use Rattle.lockview.proofs.run_course.watch_run.Given as goal

abbrev pub invariant-loop-line : goal.invariant-loop-line
invariant-loop-line l = record {
  few : l.count ≤ MOST_LINES;
  seen : l.seen.lines ≡ l.count;
  all : l.count + length l.lines ≡ length (lines l.script);
  served : lines_done l.state l.count l.lines ≡ lines_done l.initial.state 0 (lines l.script);
  passed : is_some l.seen.waits ≡ has_line l.count l.at;
}

abbrev pub decreases-loop-line : goal.decreases-loop-line
decreases-loop-line l = length l.lines
