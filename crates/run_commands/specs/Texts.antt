-- Texts that are typed, as they are read: escapes stand for characters that a line of a script cannot have (this project's
-- profile).
use Rattle.std.specs.Prelude.{ℕ, zero, suc, ◌+◌, ◌-◌, ◌*◌, ◌==◌, ◌&&◌}
use Rattle.std.specs.Prelude.{Bool, nat_le, nat_lt, List, [], ◌∷◌}
use Rattle.std.specs.Prelude.{Option, Some, None, if◌then◌else◌, option_map, option_and_then}
use Rattle.run_commands.specs.declared.texts.Spelled.{Spelled}

abbrev pub spells : ℕ → ℕ → Option Spelled
spells character length = Some (record { character = character; length = length })

abbrev pub is_octal_digit : ℕ → Bool
is_octal_digit d = nat_le 48 d && nat_le d 55

-- three octal digits up to 177
abbrev pub is_octal : ℕ → ℕ → ℕ → Bool
is_octal a b c = (nat_le 48 a && nat_le a 49) && (is_octal_digit b && is_octal_digit c)

abbrev pub octal_value : ℕ → ℕ → ℕ → ℕ
octal_value a b c = 64 * (a - 48) + 8 * (b - 48) + (c - 48)

abbrev pub octal_escape : List ℕ → Option Spelled
octal_escape (a ∷ b ∷ c ∷ more) = if is_octal a b c then spells (octal_value a b c) 4 else None
octal_escape _ = None

-- what stands behind a backslash: `n` for LF, `r` for CR, `e` for ESC, a backslash for itself, or three octal digits
abbrev pub escape : List ℕ → Option Spelled
escape [] = None
escape (c ∷ more) =
    if c == 110 then spells 10 2
    else (if c == 114 then spells 13 2
    else (if c == 101 then spells 27 2
    else (if c == 92 then spells 92 2
    else octal_escape (c ∷ more))))

-- the first character that a text spells: an ASCII character stands for itself, but for a backslash
abbrev pub first_spelled : ℕ → List ℕ → Option Spelled
first_spelled c more = if c == 92 then escape more else (if nat_lt c 128 then spells c 1 else None)

-- the characters that a text spells, behind so many that belong to what was read before
unfoldable pub spelled_behind : ℕ → List ℕ → Option (List ℕ)
spelled_behind read [] = Some []
spelled_behind (suc read) (c ∷ more) = spelled_behind read more
spelled_behind zero (c ∷ more) =
    option_and_then (λ s. option_map (λ cs. s.character ∷ cs) (spelled_behind (s.length - 1) more)) (first_spelled c more)

-- the characters that a text spells
abbrev pub characters_of : List ℕ → Option (List ℕ)
characters_of text = spelled_behind 0 text
