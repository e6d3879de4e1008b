use Rattle.std.proofs.Common.{◌≡◌, length}
use Rattle.std.specs.Str.Lines.{lines}
use Rattle.lockcheck_program.specs.Reports.{line_in}
use Rattle.lockcheck_program.proofs.script_lines.line_at.Given as goal

abbrev pub invariant-loop-line : goal.invariant-loop-line
invariant-loop-line l = line_in l.lines l.left ≡ line_in (lines l.script) l.number

abbrev pub decreases-loop-line : goal.decreases-loop-line
decreases-loop-line l = length l.lines
