-- Words as they are shown (this project's profile). A text is the list of its codes.
use Rattle.std.specs.Prelude.{ℕ, ◌==◌, ◌&&◌, nat_le, true, List, [], ◌∷◌, ◌++◌, codes}
use Rattle.std.specs.Prelude.{unsigned_abs, Option, Some, None, if◌then◌else◌}
use Rattle.std.specs.Char.{encode_utf8}
use Rattle.std.specs.Fmt.{digits}
use Rattle.std.specs.Int.{is_negative}
use Rattle.std.specs.List.{flat_map}
use Rattle.word36.specs.Octal.{word_text}
use Rattle.word36.specs.Words.{left_half, right_half, signed_value}
use Rattle.ddt_commands.specs.Characters.{ascii_codes, sixbit_codes}
use Rattle.ddt_commands.specs.declared.commands.OutputMode.{OutputMode}
use Rattle.ddt_commands.specs.declared.commands.OutputMode.TheVariants as mode
use Rattle.run_notes.specs.Instructions.{instruction_words, reference_words}
use Rattle.source_labels.specs.declared.places.Places.{Places}

-- characters one after the other
abbrev pub as_text : List ℕ → List ℕ
as_text cs = flat_map encode_utf8 cs

-- characters between two marks: 34 is a quotation mark, 39 an apostrophe
abbrev pub marked : ℕ → List ℕ → List ℕ
marked mark cs = mark ∷ (as_text cs ++ (mark ∷ []))

-- two halves, each as an address
abbrev pub halves_words : Places → ℕ → List ℕ
halves_words places w = reference_words places (left_half w) ++ (codes ",," ++ reference_words places (right_half w))

-- the sign and the digits of a word as a signed number
abbrev pub sign_words : ℕ → List ℕ
sign_words w = if is_negative (signed_value w) then codes "-" else []

abbrev pub magnitude : ℕ → ℕ
magnitude w = unsigned_abs (signed_value w)

-- the point after a decimal number
abbrev pub point_words : ℕ → List ℕ
point_words radix = if radix == 10 then codes "." else []

-- a word as a signed number of a radix, with a point after a decimal one
abbrev pub signed_words : ℕ → ℕ → List ℕ
signed_words radix w = sign_words w ++ (digits radix true (magnitude w) ++ point_words radix)

-- nothing is said but of the radices from 2 to 16
abbrev pub radix_words : ℕ → ℕ → Option (List ℕ)
radix_words radix w = if nat_le 2 radix && nat_le radix 16 then Some (signed_words radix w) else None

-- a word in each mode
abbrev pub shown_word : Places → OutputMode → ℕ → Option (List ℕ)
shown_word places mode.Symbolic w = Some (instruction_words places w)
shown_word places mode.Octal w = Some (word_text w)
shown_word places mode.Text w =
    Some (codes "ASCII " ++ (marked 34 (ascii_codes w) ++ (codes ", SIXBIT " ++ marked 39 (sixbit_codes w))))
shown_word places mode.Ascii w = Some (marked 34 (ascii_codes w))
shown_word places mode.Sixbit w = Some (marked 39 (sixbit_codes w))
shown_word places mode.Halves w = Some (halves_words places w)
shown_word places (mode.Radix radix) w = radix_words radix w

-- an address, before the text of the word there, if that is known
abbrev pub address_words : Places → ℕ → Option (List ℕ) → Option (List ℕ)
address_words places address (Some text) = Some (reference_words places address ++ (codes "/ " ++ text))
address_words places address None = None

-- a word in octal, or that there is none
abbrev pub octal_or_none : Option ℕ → List ℕ
octal_or_none (Some w) = word_text w
octal_or_none None = codes "no word"

-- what a word was and is
abbrev pub change_words : Option ℕ → Option ℕ → List ℕ
change_words was now = codes " was " ++ (octal_or_none was ++ (codes ", is " ++ (octal_or_none now ++ codes ", changed")))
