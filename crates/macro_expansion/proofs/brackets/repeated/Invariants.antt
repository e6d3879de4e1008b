use Rattle.std.proofs.Common.{◌≡◌}
use Rattle.macro_expansion.specs.Brackets.{repeated}
use Rattle.macro_expansion.proofs.brackets.repeated.Given as goal

-- the rounds so far
abbrev pub invariant-loop : goal.invariant-loop
invariant-loop l = l.all.items ≡ repeated l.counter l.text
