-- The characters that a word holds, as they are shown, and characters as they are spelled (this project's profile).
use Rattle.std.specs.Prelude.{ℕ, ◌+◌, ◌-◌, ◌*◌, ◌/◌, ◌%◌, ◌^◌, ◌==◌, ◌&&◌, ◌||◌, Bool, nat_le, nat_lt, List, [], ◌∷◌, length, drop, slice_index}
use Rattle.std.specs.Prelude.{Option, Some, None, if◌then◌else◌}
use Rattle.std.specs.Borrow.{Bor}
use Rattle.std.specs.Char.{is_ascii_graphic}
use Rattle.ddt_commands.specs.Numbers.{is_digit}
use Rattle.ddt_commands.specs.Values.{begins, is_second}

-- a character that does not print is shown as a point
abbrev pub shown_character : ℕ → ℕ
shown_character c = if (c == 32) || is_ascii_graphic c then c else 46

-- the five characters of ASCII of a word: bits 0 to 34
abbrev pub ascii_codes : ℕ → List ℕ
ascii_codes w =
    shown_character (w / 2 ^ 29 % 128)
    ∷ shown_character (w / 2 ^ 22 % 128)
    ∷ shown_character (w / 2 ^ 15 % 128)
    ∷ shown_character (w / 2 ^ 8 % 128)
    ∷ shown_character (w / 2 % 128)
    ∷ []

-- the six characters of SIXBIT of a word, each as its code of ASCII
abbrev pub sixbit_codes : ℕ → List ℕ
sixbit_codes w =
    (w / 2 ^ 30 % 64 + 32)
    ∷ (w / 2 ^ 24 % 64 + 32)
    ∷ (w / 2 ^ 18 % 64 + 32)
    ∷ (w / 2 ^ 12 % 64 + 32)
    ∷ (w / 2 ^ 6 % 64 + 32)
    ∷ (w % 64 + 32)
    ∷ []

-- a backslash with three octal digits, to 177
abbrev pub is_octal : List ℕ → Bool
is_octal text =
    nat_lt 3 (length text)
    && (is_digit 2 (slice_index text 1) && (is_digit 8 (slice_index text 2) && is_digit 8 (slice_index text 3)))

abbrev pub octal_character : List ℕ → ℕ
octal_character text = (slice_index text 1 - 48) * 64 + (slice_index text 2 - 48) * 8 + (slice_index text 3 - 48)

-- after a backslash: `n` is a line feed, `r` a carriage return, `e` ESC
abbrev pub after_backslash : List ℕ → Option (ℕ × List ℕ)
after_backslash text =
    if is_second 110 text then Some (10, drop 2 text) else
    if is_second 114 text then Some (13, drop 2 text) else
    if is_second 101 text then Some (27, drop 2 text) else
    if is_second 92 text then Some (92, drop 2 text) else
    if is_octal text then Some (octal_character text, drop 4 text) else None

-- the first character of a text as it is spelled, and the rest
abbrev pub spelled : List ℕ → Option (ℕ × List ℕ)
spelled text =
    if begins 92 text then after_backslash text else
    if length text == 0 then None else Some (slice_index text 0, drop 1 text)

abbrev pub spelled_parts : Option (ℕ × Bor (List ℕ)) → Option (ℕ × List ℕ)
spelled_parts (Some parts) = Some (parts.0, parts.1.now)
spelled_parts None = None
