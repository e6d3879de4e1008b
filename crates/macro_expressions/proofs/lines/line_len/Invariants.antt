use Rattle.std.proofs.Common.{◌≡◌, drop}
use Rattle.macro_expressions.specs.Reading.{line_behind}
use Rattle.macro_expressions.proofs.lines.line_len.Given as goal

-- no character so far ends the line
abbrev pub invariant-loop-i : goal.invariant-loop-i
invariant-loop-i l = line_behind (drop l.i l.text) ≡ line_behind l.text
