use Rattle.std.proofs.Common.{◌≡◌, replicate}
use Rattle.macro_statements.proofs.data.zeros.Given as goal

-- so many words so far
abbrev pub invariant-loop : goal.invariant-loop
invariant-loop l = l.words.items ≡ replicate l.counter 0
