-- SIXBIT: six characters in a word (MACRO-10 Assembler Manual). A text is the list of its ASCII codes.
use Rattle.std.specs.Prelude.{ℕ, Bool, ◌-◌, ◌&&◌, List, ◌++◌, length, map, replicate, nat_le, Option, Some, None, if◌then◌else◌}
use Rattle.std.specs.List.{list_all}
use Rattle.std.specs.Int.Digits.{number_from_digits}

-- space to underline are the characters of SIXBIT
abbrev pub is_sixbit : ℕ → Bool
is_sixbit c = nat_le 0o40 c && nat_le c 0o137

-- the codes of a text, each the character less 40 octal, filled up to six by zeros on the right
abbrev pub six_codes : List ℕ → List ℕ
six_codes text = map (λ c. c - 0o40) text ++ replicate (6 - length text) 0

-- the word whose six parts of six bits are the codes; none for a text of more than six characters, or with a character that has no code
abbrev pub sixbit_word : List ℕ → Option ℕ
sixbit_word text =
    if nat_le (length text) 6 && list_all is_sixbit text
    then Some (number_from_digits 64 (six_codes text))
    else None
