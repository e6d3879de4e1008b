-- Names by their keys: six characters as one number in SIXBIT (MACRO-10 Assembler Manual).
use Rattle.std.specs.Prelude.{ℕ, ◌+◌, ◌-◌, ◌*◌, ◌^◌, ◌%◌, Bool, ◌&&◌, nat_le, nat_lt, List, length, slice_index}
use Rattle.std.specs.List.{list_all}

-- the code of the character at a position in SIXBIT, a blank's where there is none
abbrev pub code_at : List ℕ → ℕ → ℕ
code_at name at = (slice_index name at - 32) % 64

-- the first six characters as one number, six bits each, the first highest; blanks stand behind the last
abbrev pub sixbit_of : List ℕ → ℕ
sixbit_of name =
    code_at name 0 * 2 ^ 30 + code_at name 1 * 2 ^ 24 + code_at name 2 * 2 ^ 18
    + code_at name 3 * 2 ^ 12 + code_at name 4 * 2 ^ 6 + code_at name 5

-- a character that has a code in SIXBIT, and is no blank
abbrev pub has_code : ℕ → Bool
has_code c = nat_lt 32 c && nat_lt c 96

-- at most six such characters
abbrev pub is_plain : List ℕ → Bool
is_plain name = nat_le (length name) 6 && list_all has_code name
