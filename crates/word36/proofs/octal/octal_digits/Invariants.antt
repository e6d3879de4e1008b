use Rattle.std.proofs.Common.{◌≡◌, ◌++◌, drop, length}
use Rattle.word36.specs.Octal.{octal}
use Rattle.word36.proofs.octal.octal_digits.Given as goal

abbrev pub invariant-loop-position : goal.invariant-loop-position
invariant-loop-position g l =
    (length l.digits ≡ g.row.N) × (octal l.position l.rest ++ drop l.position l.digits ≡ octal g.row.N l.fn.number)
