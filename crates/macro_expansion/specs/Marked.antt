-- Texts between two equal marks (MACRO-10 Assembler Manual), and their words.
use Rattle.std.specs.Prelude.{ℕ, zero, suc, ◌+◌, ◌*◌, Bool, ◌==◌, ◌||◌, Result, Ok, Err, nat_le}
use Rattle.std.specs.Prelude.{List, [], ◌∷◌, ◌++◌, length, Option, Some, None, if◌then◌else◌}
use Rattle.std.specs.List.{list_any}
use Rattle.mac_text.specs.Scan.{after_blanks, begins_with}
use Rattle.mac_text.specs.Texts.{text_from}
use Rattle.mac_text.specs.declared.syntax.TextForm.{TextForm}
use Rattle.mac_text.specs.declared.syntax.TextForm.TheVariants.{Ascii, Asciz, Sixbit}
use Rattle.mac_layout.specs.TextSizes.{words_in}
use Rattle.mac_asm.specs.Packing.{ascii_word, sixbit_word}
use Rattle.macro_expressions.specs.declared.fault.Stop.{Stop}
use Rattle.macro_expressions.specs.declared.fault.Stop.TheVariants.{Wrong, Beyond}
use Rattle.macro_expressions.specs.Reading.{◌>>=◌, Reader, or_stop}

-- 253, 254 and 255 are no characters of a source: they are marks in the texts that macros and rounds put before the rest
abbrev pub is_mark : ℕ → Bool
is_mark c = nat_le 128 c

abbrev pub has_marks : List ℕ → Bool
has_marks text = list_any is_mark text

abbrev pub ends_text : ℕ → Bool
ends_text c = c == 10 || is_mark c

-- the text between two equal characters, and what comes after; one of several lines, or with marks, is not judged
abbrev pub of_one_line : Option (List ℕ × List ℕ) → Result (List ℕ × List ℕ) Stop
of_one_line None = Err Beyond
of_one_line (Some x) = if list_any ends_text x.0 then Err Beyond else Ok x

abbrev pub marked_text : List ℕ → Result (List ℕ × List ℕ) Stop
marked_text text = if begins_with 10 text then Err Beyond else of_one_line (text_from text)

-- a word of a text, by its number
abbrev pub text_word : TextForm → List ℕ → ℕ → Result ℕ Stop
text_word Ascii text at = Ok (ascii_word text (at * 5))
text_word Asciz text at = Ok (ascii_word text (at * 5))
text_word Sixbit text at = or_stop Wrong (sixbit_word text (at * 6))

-- count words of a text, from one on, after others
unfoldable pub packed : TextForm → List ℕ → ℕ → ℕ → List ℕ → Result (List ℕ) Stop
packed form text zero from words = Ok words
packed form text (suc count) from words = text_word form text from >>= λ w. packed form text count (from + 1) (words ++ w ∷ [])

-- one of more than 1000 words is not judged
abbrev pub text_words_of : TextForm → List ℕ → Result (List ℕ) Stop
text_words_of form text =
    if nat_le (words_in form (length text)) 1000 then packed form text (words_in form (length text)) 0 [] else Err Beyond

-- ASCII, ASCIZ and SIXBIT
unfoldable pub text_at : TextForm → Reader (List ℕ)
text_at form s = do
  x ← marked_text (after_blanks s.rest)
  words ← text_words_of form x.0
  Ok (words, record s { rest = x.1 })
