use Rattle.std.proofs.Common.{◌≡◌, ◌≤◌, drop}
use Rattle.macro_expansion.specs.Macros.{argument_from, no_argument}
use Rattle.macro_expansion.proofs.arguments.argument_from.Given as goal

-- the characters so far belong to the argument
abbrev pub invariant-loop-i : goal.invariant-loop-i
invariant-loop-i l =
    record {
      same : argument_from l.in_parentheses l.argument (drop l.i l.text) ≡ argument_from l.in_parentheses no_argument l.text;
      angles : l.argument.angles ≤ l.i;
      others : l.argument.others ≤ l.i;
    }
