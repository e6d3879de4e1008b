use Rattle.std.proofs.Common.{◌≡◌, take, true}
use Rattle.std.specs.List.{list_all}
use Rattle.whole_numbers.specs.Numerals.{digits_value}
use Rattle.mac_text.specs.Numbers.{is_digit_of}
use Rattle.mac_text.proofs.numbers.leading_number.Given as goal

-- the characters so far are digits, and the number is theirs
abbrev pub invariant-loop-i : goal.invariant-loop-i
invariant-loop-i l = (list_all (is_digit_of l.radix) (take l.i l.text) ≡ true) × (l.number ≡ digits_value l.radix (take l.i l.text))
