-- The lines of a file that the debugger types, one after the other (this project's profile).
use Rattle.std.specs.Prelude.{ℕ, ◌+◌, ◌-◌, ◌==◌, ◌++◌, Bool, nat_le, nat_lt, List, [], ◌∷◌, drop, length, slice_index_or, take}
use Rattle.std.specs.Prelude.{if◌then◌else◌}
use Rattle.std.specs.List.{before_first, count_by}
use Rattle.run_facts.specs.Typing.{line_for, text_for}
use Rattle.ddt_timeline.specs.Histories.{History}
use Rattle.ddt_moves.specs.Terminals.{typed_line}
use Rattle.ddt_moves.specs.declared.input.InputLines.{InputLines}
use Rattle.ddt_moves.specs.declared.input.Typed.{Typed}

-- ---- the lines of a text

abbrev pub is_line_end : ℕ → Bool
is_line_end c = c == 10

-- what stands before the first LF of a text, or all of it
abbrev pub first_line : List ℕ → List ℕ
first_line text = before_first is_line_end text

-- whether CR is the last of some characters
abbrev pub has_return : List ℕ → Bool
has_return line = slice_index_or line (length line - 1) 0 == 13

-- a line without CR at its end
abbrev pub without_return : List ℕ → List ℕ
without_return line = if has_return line then take (length line - 1) line else line

-- the line that begins at a position of a text, without its LF or CR LF
abbrev pub line_at : List ℕ → ℕ → List ℕ
line_at text start = without_return (first_line (drop start text))

-- the position of the next line: one behind the LF
abbrev pub next_line : List ℕ → ℕ → ℕ
next_line text start = start + length (first_line (drop start text)) + 1

-- ---- the lines that were typed

-- the text of some lines
abbrev pub text_of : InputLines → List ℕ
text_of lines = lines.text.items

-- those that were typed, each with how many entries had happened behind it, and the position of the next one
abbrev pub typed_of : InputLines → List Typed
typed_of lines = lines.typed.items

-- whether a line was typed where so many entries have happened
abbrev pub was_typed : ℕ → Typed → Bool
was_typed happened t = nat_le t.happened happened

-- the position behind the last of some lines that was typed where so many entries have happened, or this one where none was
abbrev pub start_behind : ℕ → ℕ → List Typed → ℕ
start_behind happened start [] = start
start_behind happened start (t ∷ ts) = start_behind happened (if was_typed happened t then t.next else start) ts

-- the position of the next line where so many entries have happened
abbrev pub next_start : InputLines → ℕ → ℕ
next_start lines happened = start_behind happened 0 (typed_of lines)

-- whether a line is left there
abbrev pub is_left : InputLines → ℕ → Bool
is_left lines happened = nat_lt (next_start lines happened) (length (text_of lines))

-- as many of the lines, from the first on, as were typed where so many entries have happened: these are all of them, where they were
-- typed one behind the other
abbrev pub typed_before : ℕ → List Typed → List Typed
typed_before happened ts = take (count_by (was_typed happened) ts) ts

-- what has happened where the line at a position of a text was typed, where so many lines have jobs
abbrev pub line_typed : ℕ → List ℕ → ℕ → History → History
line_typed lines text start h =
    typed_line (line_for lines (line_at text start)) (text_for lines (line_at text start)) h

-- and where it was, if it is left
abbrev pub next_typed : ℕ → InputLines → ℕ → History → History
next_typed lines input happened h =
    if is_left input happened then line_typed lines (text_of input) (next_start input happened) h else h

-- the note on the line at a position of a text, behind which so many entries had happened
abbrev pub note_of : List ℕ → ℕ → ℕ → Typed
note_of text start behind = record { happened = behind; next = next_line text start }

-- the lines that were typed, and the next one with them, if it is left
abbrev pub typed_with : InputLines → ℕ → ℕ → List Typed
typed_with input happened behind =
    if is_left input happened then typed_of input ++ note_of (text_of input) (next_start input happened) behind ∷ []
    else typed_of input
