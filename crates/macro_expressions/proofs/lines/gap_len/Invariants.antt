use Rattle.std.proofs.Common.{◌≡◌, drop, false}
use Rattle.macro_expressions.specs.Reading.{between}
use Rattle.macro_expressions.proofs.lines.gap_len.Given as goal

-- all characters so far stand between statements
abbrev pub invariant-loop-i : goal.invariant-loop-i
invariant-loop-i l = between l.in_comment (drop l.i l.text) ≡ between false l.text
