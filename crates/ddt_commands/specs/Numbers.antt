-- Numbers as they are typed: octal, or decimal with a point behind them (this project's profile).
use Rattle.std.specs.Prelude.{ℕ, ◌+◌, ◌-◌, ◌*◌, ◌^◌, ◌==◌, min, nat_le, nat_lt, ◌&&◌, Bool, List, [], ◌∷◌, length, take}
use Rattle.std.specs.Prelude.{slice_index, Option, Some, None, if◌then◌else◌}
use Rattle.std.specs.List.{list_all}

-- whether a byte is a digit of a radix up to 10; 48 is the code of 0
abbrev pub is_digit : ℕ → ℕ → Bool
is_digit radix byte = nat_le 48 byte && nat_lt byte (48 + radix)

-- the number of some digits behind others, whose number is this one; the highest comes first
abbrev pub number_behind : ℕ → ℕ → List ℕ → ℕ
number_behind radix so_far [] = so_far
number_behind radix so_far (digit ∷ digits) = number_behind radix (so_far * radix + (digit - 48)) digits

-- the number of some digits; none where there is no digit, or another character
abbrev pub number_of : ℕ → List ℕ → Option ℕ
number_of radix text = if nat_lt 0 (length text) && list_all (is_digit radix) text then Some (number_behind radix 0 text) else None

-- at most 2^40, which no command takes and no word holds
abbrev pub capped : Option ℕ → Option ℕ
capped (Some number) = Some (min (2 ^ 40) number)
capped None = None

-- whether a text has a point at its end; 46 is its code
abbrev pub is_pointed : List ℕ → Bool
is_pointed text = nat_lt 0 (length text) && slice_index text (length text - 1) == 46

abbrev pub before_point : List ℕ → List ℕ
before_point text = take (length text - 1) text

-- the number of decimal digits, with or without a point behind them
abbrev pub decimal_in : List ℕ → Option ℕ
decimal_in text = capped (number_of 10 (if is_pointed text then before_point text else text))

-- that of octal digits, or of decimal ones with a point behind them
abbrev pub number_in : List ℕ → Option ℕ
number_in text = capped (if is_pointed text then number_of 10 (before_point text) else number_of 8 text)

-- a number of times, from 1 to 10000 octal
abbrev pub as_times : Option ℕ → Option ℕ
as_times (Some number) = if nat_le 1 number && nat_le number 0o10000 then Some number else None
as_times None = None
