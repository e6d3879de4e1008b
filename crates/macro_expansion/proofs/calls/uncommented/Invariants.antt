use Rattle.std.proofs.Common.{◌≡◌, drop, false}
use Rattle.macro_expansion.specs.Macros.{uncommented}
use Rattle.macro_expansion.proofs.calls.uncommented.Given as goal

-- the characters so far are kept, or in a comment
abbrev pub invariant-loop-i : goal.invariant-loop-i
invariant-loop-i l = uncommented l.in_comment l.kept.items (drop l.i l.body) ≡ uncommented false l.fn.kept.items l.body
