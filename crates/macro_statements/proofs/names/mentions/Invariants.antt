use Rattle.std.proofs.Common.{◌≡◌, drop, false}
use Rattle.macro_statements.specs.Mentions.{mentions}
use Rattle.macro_statements.proofs.names.mentions.Given as goal

-- no word so far says something of what comes before it
abbrev pub invariant-loop-i : goal.invariant-loop-i
invariant-loop-i l = mentions l.in_comment l.in_name (drop l.i l.text) ≡ mentions false false l.text
