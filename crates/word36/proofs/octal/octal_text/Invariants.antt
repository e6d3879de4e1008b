use Rattle.std.proofs.Common.{◌≡◌, ◌++◌, ◌<◌, ◌^◌, drop, length}
use Rattle.word36.specs.Octal.{octal_within}
use Rattle.word36.proofs.octal.octal_text.Given as goal

-- the digits that are left to write, before those that stand
abbrev pub invariant-loop-rest : goal.invariant-loop-rest
invariant-loop-rest l =
    (length l.digits ≡ 22) × (0 < l.first) × (l.first < 23) × (l.rest < 8 ^ l.first)
    × (octal_within l.first l.rest ++ drop l.first l.digits ≡ octal_within 22 l.fn.number)

abbrev pub decreases-loop-rest : goal.decreases-loop-rest
decreases-loop-rest l = l.first
