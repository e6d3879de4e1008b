-- Texts in brackets, and what conditions and repetitions put before the rest of a text (MACRO-10 Assembler Manual).
use Rattle.std.specs.Prelude.{ℕ, zero, suc, ◌+◌, ◌-◌, ◌*◌, ℤ, pos, int_le, Result, Ok, Err, Bool, true, false, ◌==◌, ◌||◌, ◌&&◌, nat_le}
use Rattle.std.specs.Prelude.{List, [], ◌∷◌, ◌++◌, length, take, drop, slice_get, Option, Some, None, unsigned_abs, if◌then◌else◌}
use Rattle.std.specs.Option.{option_map}
use Rattle.std.specs.List.{list_any, list_all}
use Rattle.mac_text.specs.Characters.{is_blank}
use Rattle.mac_text.specs.Scan.{after_blanks, begins_with}
use Rattle.macro_expressions.specs.declared.fault.Stop.{Stop}
use Rattle.macro_expressions.specs.declared.fault.Stop.TheVariants.{Beyond}
use Rattle.macro_expressions.specs.Reading.{◌>>=◌, or_stop, ends_line}
use Rattle.macro_expansion.specs.Marked.{is_mark, marked_text}

-- after a `<`: the position of the `>` that closes it, by how many brackets are open in it, and how many characters were passed
unfoldable pub closed_at : ℕ → ℕ → List ℕ → Option ℕ
closed_at open_ at [] = None
closed_at open_ at (c ∷ cs) =
    elim (c == 62) [
      | true ↦ elim open_ [ zero ↦ Some at | suc d ↦ closed_at d (at + 1) cs ]
      | false ↦ closed_at (if c == 60 then open_ + 1 else open_) (at + 1) cs
    ]

-- after a `<`: the text up to its `>`, and what comes after
abbrev pub up_to_close : List ℕ → Option (List ℕ × List ℕ)
up_to_close text = option_map (λ at. (take at text, drop (at + 1) text)) (closed_at 0 0 text)

-- a text in brackets, which comes next, and what comes after
abbrev pub bracketed : List ℕ → Option (List ℕ × List ℕ)
bracketed [] = None
bracketed (c ∷ cs) = if c == 60 then up_to_close cs else None

-- after blanks, and after a comma and blanks if it comes next
abbrev pub past_comma : List ℕ → List ℕ
past_comma text = if begins_with 44 (after_blanks text) then after_blanks (drop 1 (after_blanks text)) else after_blanks text

-- the text of a condition or a repetition, after what it asks
abbrev pub text_next : List ℕ → Result (List ℕ × List ℕ) Stop
text_next text = or_stop Beyond (bracketed (past_comma text))

-- ---- texts before the rest

-- the last character ends a line
abbrev pub ends_with_line : List ℕ → Bool
ends_with_line text = elim (slice_get text (length text - 1)) [ None ↦ false | Some c ↦ c == 10 ]

-- a text ends with a new line
abbrev pub lined : List ℕ → List ℕ
lined text = if ends_with_line text then text else text ++ 10 ∷ []

-- n times
unfoldable pub repeated : ℕ → List ℕ → List ℕ
repeated zero text = []
repeated (suc n) text = repeated n text ++ text

-- a number that is not positive is 0 times
abbrev pub times : ℤ → ℕ
times z = if int_le z (pos 0) then 0 else unsigned_abs z

-- at most 10000 rounds, and 1000000 characters, are judged
abbrev pub rounds_of : ℕ → List ℕ → Result (List ℕ) Stop
rounds_of n text = if nat_le n 10000 && nat_le (n * length text) 1000000 then Ok (repeated n text) else Err Beyond

-- a text without a new line at its end comes before the end of a line
abbrev pub joins : List ℕ → List ℕ → Bool
joins text rest = length text == 0 || (ends_with_line text || ends_line (after_blanks rest))

-- ---- what conditions compare

-- a text in brackets, or one between two equal marks
abbrev pub bracketed_or_marked : List ℕ → Result (List ℕ × List ℕ) Stop
bracketed_or_marked text = if begins_with 60 text then or_stop Beyond (bracketed text) else marked_text text

-- one with CR or a mark in it is not judged
abbrev pub is_unjudged : ℕ → Bool
is_unjudged c = c == 13 || is_mark c

abbrev pub without_returns : List ℕ × List ℕ → Result (List ℕ × List ℕ) Stop
without_returns x = if list_any is_unjudged x.0 then Err Beyond else Ok x

abbrev pub compared : List ℕ → Result (List ℕ × List ℕ) Stop
compared text = bracketed_or_marked (after_blanks text) >>= λ x. without_returns x

-- nothing but blanks and ends of lines
abbrev pub is_space : ℕ → Bool
is_space c = is_blank c || c == 10

abbrev pub is_spaces : List ℕ → Bool
is_spaces text = list_all is_space text
