use Rattle.std.proofs.Common.{◌≡◌, ◌≤◌, length, true}
use Rattle.lockcheck_orders.specs.Programs.{are_right_lines}
use Rattle.lockcheck_orders.specs.declared.lines.TheConstants.{MOST_LINES}
use Rattle.lockcheck_program.specs.Reading.{joined, lines_behind, programs_of}
use Rattle.lockcheck_program.proofs.reading.read_lines.Given as goal

abbrev pub invariant-loop-line : goal.invariant-loop-line
invariant-loop-line l = record {
  read : joined l.kept.items (lines_behind l.number l.lines) ≡ programs_of l.script;
  right : are_right_lines l.kept.items ≡ true;
  few : length l.kept.items ≤ l.number;
  within : l.number ≤ MOST_LINES;
}

abbrev pub decreases-loop-line : goal.decreases-loop-line
decreases-loop-line l = length l.lines
