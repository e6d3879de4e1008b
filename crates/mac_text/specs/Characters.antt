-- The characters of a source (MACRO-10 Assembler Manual).
use Rattle.std.specs.Prelude.{ℕ, ◌-◌, Bool, ◌==◌, ◌||◌, ◌&&◌, nat_le, if◌then◌else◌}

-- spaces, tabs and form feeds separate
abbrev pub is_blank : ℕ → Bool
is_blank c = c == 32 || (c == 9 || c == 12)

abbrev pub is_digit : ℕ → Bool
is_digit c = nat_le 48 c && nat_le c 57

abbrev pub is_upper_case : ℕ → Bool
is_upper_case c = nat_le 65 c && nat_le c 90

abbrev pub is_lower_case : ℕ → Bool
is_lower_case c = nat_le 97 c && nat_le c 122

-- names and numbers are made of letters, digits, point, dollar sign and per cent sign
abbrev pub is_name_character : ℕ → Bool
is_name_character c = is_upper_case c || (is_lower_case c || (is_digit c || (c == 46 || (c == 36 || c == 37))))

-- letters fold to upper case
abbrev pub upper_case : ℕ → ℕ
upper_case c = if is_lower_case c then c - 32 else c
