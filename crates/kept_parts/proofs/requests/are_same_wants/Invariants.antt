use Rattle.std.proofs.Common.{◌≡◌, drop, length}
use Rattle.std.specs.Cmp.Lexicographic.{pointwise}
use Rattle.kept_parts.specs.Requests.{same_want}
use Rattle.kept_parts.proofs.requests.are_same_wants.Given as goal

abbrev pub invariant-loop-i : goal.invariant-loop-i
invariant-loop-i l = (length l.a ≡ length l.b) × (pointwise same_want (drop l.i l.a) (drop l.i l.b) ≡ pointwise same_want l.a l.b)
