-- What the debugger types at terminals, and takes from their output (this project's profile).
use Rattle.std.specs.Prelude.{ℕ, zero, suc, ◌==◌, ◌&&◌, ◌++◌, length, nat_lt, not, Bool, true, false, List, [], ◌∷◌, if◌then◌else◌}
use Rattle.machine.specs.declared.event.Answer.{Answer}
use Rattle.machine.specs.declared.event.Answer.TheVariants.{Text, Refused}
use Rattle.machine.specs.declared.event.RefusedEvent.TheVariants.{Full}
use Rattle.ddt_timeline.specs.Histories.{History, done, machine_of}
use Rattle.ddt_timeline.specs.Timelines.{answer_to}
use Rattle.ddt_timeline.specs.declared.entries.Entry.TheVariants.{Typed, Take}

-- ---- what is typed

-- whether an event is refused since a line has no room
abbrev pub is_full : Answer → Bool
is_full (Refused Full) = true
is_full _ = false

-- what has happened where a byte was to be typed at a line: one that is no character, above 177 octal, is passed over
unfoldable pub typed_byte : ℕ → ℕ → History → History
typed_byte line byte h = if nat_lt byte 128 then done h (Typed line byte ∷ []) else h

-- whether it is a character for which the line has no room
unfoldable pub finds_no_room : ℕ → ℕ → History → Bool
finds_no_room line byte h = nat_lt byte 128 && is_full (answer_to (machine_of h) (Typed line byte))

-- what has happened where some bytes were to be typed, in order, up to and with the first for which there was no room
abbrev pub typed_bytes : ℕ → List ℕ → History → History
typed_bytes line [] h = h
typed_bytes line (byte ∷ bytes) h =
    if finds_no_room line byte h then typed_byte line byte h else typed_bytes line bytes (typed_byte line byte h)

-- whether there was room for all of them
abbrev pub have_room : ℕ → List ℕ → History → Bool
have_room line [] h = true
have_room line (byte ∷ bytes) h = not (finds_no_room line byte h) && have_room line bytes (typed_byte line byte h)

-- a text is typed, and RETURN, for which TOPS-10 hands CR and LF to a program
abbrev pub typed_line : ℕ → List ℕ → History → History
typed_line line text h = typed_bytes line (text ++ 13 ∷ 10 ∷ []) h

abbrev pub line_has_room : ℕ → List ℕ → History → Bool
line_has_room line text h = have_room line (text ++ 13 ∷ 10 ∷ []) h

-- ---- what is taken

-- the text of an answer; none where it has none
abbrev pub text_in : Answer → List ℕ
text_in (Text text) = text
text_in _ = []

-- the text that the next take of a line's output gives
abbrev pub next_text : ℕ → History → List ℕ
next_text line h = text_in (answer_to (machine_of h) (Take line))

-- what has happened where so many takes of it were to be made, up to and with the first that gives no text
unfoldable pub takes : ℕ → ℕ → History → History
takes zero line h = h
takes (suc n) line h = if length (next_text line h) == 0 then done h (Take line ∷ []) else takes n line (done h (Take line ∷ []))

-- the text that they give
unfoldable pub taken_text : ℕ → ℕ → History → List ℕ
taken_text zero line h = []
taken_text (suc n) line h =
    if length (next_text line h) == 0 then [] else next_text line h ++ taken_text n line (done h (Take line ∷ []))
