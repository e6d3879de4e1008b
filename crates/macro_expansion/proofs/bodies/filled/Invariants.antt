use Rattle.std.proofs.Common.{◌≡◌, drop}
use Rattle.macro_expansion.specs.Macros.{filled, unfilled}
use Rattle.macro_expansion.proofs.bodies.filled.Given as goal

-- the characters so far are in the text, or are passed over
abbrev pub invariant-loop-i : goal.invariant-loop-i
invariant-loop-i l = filled l.bound l.filling (drop l.i l.body) ≡ filled l.bound unfilled l.body
