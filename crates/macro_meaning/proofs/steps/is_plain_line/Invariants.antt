use Rattle.std.proofs.Common.{◌≡◌, drop}
use Rattle.macro_meaning.specs.Meaning.{is_plain_line}
use Rattle.macro_meaning.proofs.steps.is_plain_line.Given as goal

-- the characters so far neither end the line nor are marks
abbrev pub invariant-loop-c : goal.invariant-loop-c
invariant-loop-c l = is_plain_line (drop l.c-index l.text) ≡ is_plain_line l.text
