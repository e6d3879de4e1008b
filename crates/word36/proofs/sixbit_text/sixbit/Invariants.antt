use Rattle.std.proofs.Common.{◌≡◌, ◌<◌, ◌^◌, take}
use Rattle.std.specs.Int.Digits.{number_from_digits}
use Rattle.word36.specs.Sixbit.{six_codes}
use Rattle.word36.proofs.sixbit_text.sixbit.Given as goal

abbrev pub invariant-loop-position : goal.invariant-loop-position
invariant-loop-position l =
    (l.number ≡ number_from_digits 64 (take l.position (six_codes l.text))) × (l.number < 64 ^ l.position)
