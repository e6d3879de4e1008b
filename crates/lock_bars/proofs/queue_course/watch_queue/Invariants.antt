-- What is seen from here on is what is seen of the whole script, and the waits are those behind the line that is asked for.
use Rattle.std.proofs.Common.{◌≡◌, ◌≤◌, ◌+◌, ℕ, [], IfSome, is_some, length, map}
use Rattle.std.specs.List.{All}
use Rattle.std.specs.Str.Lines.{lines}
use Rattle.lock_bars.proofs.CourseLemmas.{Kept}
use Rattle.lock_bars.specs.Arrows.{HasLock, wait_of, waits_in}
use Rattle.lock_bars.specs.Courses.{course_of, has_line, line_columns, requests_after}
use Rattle.lock_bars.specs.declared.errors.TheConstants.{MOST_LINES}
use Rattle.lock_bars.proofs.queue_course.watch_queue.Given as goal

abbrev pub invariant-loop-line : goal.invariant-loop-line
invariant-loop-line g l = record {
  few : l.seen.lines ≤ MOST_LINES;
  columns : length l.seen.columns.items ≡ l.seen.lines;
  named : l.seen.columns.items ≡ line_columns l.seen.lines;
  count : l.seen.lines + length l.lines ≡ length (lines l.script);
  course : course_of g.L.LockTable.REQS (g.L.LockTable.requests l.table) l.seen.lines l.lines l.seen.bars.items
      ≡ course_of g.L.LockTable.REQS [] 0 (lines l.script) [];
  behind : (k : ℕ) → requests_after g.L.LockTable.REQS k (g.L.LockTable.requests l.table) l.seen.lines l.lines
      ≡ requests_after g.L.LockTable.REQS (l.seen.lines + k) [] 0 (lines l.script);
  passed : is_some l.seen.waits ≡ has_line l.seen.lines l.at;
  waits : Kept l.at (λ k. requests_after g.L.LockTable.REQS k [] 0 (lines l.script)) l.seen.waits;
  arrows : IfSome l.seen.waits (λ w. map wait_of l.seen.arrows.items ≡ waits_in w.0);
  locks : IfSome l.seen.waits (λ w. All (HasLock (requests_after g.L.LockTable.REQS w.1 [] 0 (lines l.script))) l.seen.arrows.items);
}

abbrev pub decreases-loop-line : goal.decreases-loop-line
decreases-loop-line g l = length l.lines
