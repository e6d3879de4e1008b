-- What a comment says of a word: its address, the word in octal, and its characters.
use Rattle.std.specs.Prelude.{ℕ, ◌+◌, ◌/◌, ◌%◌, ◌^◌, Bool, ◌&&◌, nat_le, List, [], ◌∷◌, ◌++◌, codes, if◌then◌else◌}
use Rattle.std.specs.List.{list_all}
use Rattle.word36.specs.Octal.{octal, word_text}

-- a printing character, from space to ~
abbrev pub is_printing : ℕ → Bool
is_printing c = nat_le 32 c && nat_le c 126

-- six characters of SIXBIT, each six bits and 40 octal
abbrev pub sixbit_text : ℕ → List ℕ
sixbit_text w =
    (32 + w / 2 ^ 30 % 64) ∷ (32 + w / 2 ^ 24 % 64) ∷ (32 + w / 2 ^ 18 % 64)
    ∷ (32 + w / 2 ^ 12 % 64) ∷ (32 + w / 2 ^ 6 % 64) ∷ (32 + w % 64) ∷ []

-- five characters of 7 bits, from the left
abbrev pub ascii_text : ℕ → List ℕ
ascii_text w =
    (w / 2 ^ 29 % 128) ∷ (w / 2 ^ 22 % 128) ∷ (w / 2 ^ 15 % 128) ∷ (w / 2 ^ 8 % 128) ∷ (w / 2 % 128) ∷ []

-- the five characters in quotes, where all of them print
abbrev pub quoted_if : Bool → List ℕ → List ℕ
quoted_if b text = if b then codes " \"" ++ (text ++ codes "\"") else []

-- as ` 000140 201040,,000012`
abbrev pub numbers_text : ℕ × ℕ → List ℕ
numbers_text x = 32 ∷ (octal 6 x.0 ++ 32 ∷ word_text x.1)

-- as ` '0(@  *'`, and the five characters where they print
abbrev pub characters_text : ℕ → List ℕ
characters_text w =
    codes " '" ++ (sixbit_text w ++ (codes "'" ++ quoted_if (list_all is_printing (ascii_text w)) (ascii_text w)))

abbrev pub note_of : ℕ × ℕ → List ℕ
note_of x = numbers_text x ++ characters_text x.1
