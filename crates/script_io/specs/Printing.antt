-- Characters as scripts write them (this project's profile).
use Rattle.std.specs.Prelude.{◌+◌, ◌/◌, ◌%◌, ◌==◌, ◌||◌, ℕ, List, [], ◌∷◌, nat_lt, if◌then◌else◌}
use Rattle.std.specs.List.{flat_map}

-- a character as a backslash and three octal digits
abbrev pub escaped : ℕ → List ℕ
escaped c = 92 ∷ (48 + c / 64) ∷ (48 + c / 8 % 8) ∷ (48 + c % 8) ∷ []

-- a character of a text that is typed or taken: the escapes of LF, CR, ESC and the backslash; other control characters in
-- octal; all else as it is
abbrev pub printed_character : ℕ → List ℕ
printed_character c =
    if c == 10 then 92 ∷ 110 ∷ []
    else (if c == 13 then 92 ∷ 114 ∷ []
    else (if c == 27 then 92 ∷ 101 ∷ []
    else (if c == 92 then 92 ∷ 92 ∷ []
    else (if nat_lt c 32 || c == 127 then escaped c else c ∷ []))))

abbrev pub printed : List ℕ → List ℕ
printed text = flat_map printed_character text
