-- Names of images (this project's profile).
use Rattle.std.specs.Prelude.{ℕ, ◌&&◌, ◌||◌, Bool, nat_le, List, length, Option, Some, None, if◌then◌else◌}
use Rattle.std.specs.List.{list_all}

-- a letter of either case, or a digit
abbrev pub is_name_character : ℕ → Bool
is_name_character c = (nat_le 65 c && nat_le c 90) || ((nat_le 97 c && nat_le c 122) || (nat_le 48 c && nat_le c 57))

-- 1 to 6 such characters
abbrev pub is_name : List ℕ → Bool
is_name text = nat_le 1 (length text) && (nat_le (length text) 6 && list_all is_name_character text)

-- the name that a text spells
abbrev pub name_of : List ℕ → Option (List ℕ)
name_of text = if is_name text then Some text else None
