-- What terminal lines mean: two lists of characters a line (this project's profile).
use Rattle.std.specs.Prelude.{ℕ, ◌≡◌, ◌≤◌, ◌-◌, Bool, ◌||◌, nat_lt, nat_le, min, List, [], length, slice_index_or}
use Rattle.std.specs.Prelude.{slice_set, take, replicate, Result, Ok, Err, if◌then◌else◌, All}
use Rattle.std.specs.List.{list_any}
use Rattle.word36.specs.declared.sizes.TheConstants.{LINES, INPUT_RING, OUTPUT_RING, TAKEN_AT_ONCE}
use Rattle.tty_lines.specs.declared.line_error.LineError.{LineError}
use Rattle.tty_lines.specs.declared.line_error.LineError.TheVariants.{NoLine, Full}
use Rattle.tty_lines.specs.Breaks.{is_break}

-- the two lists of a line, the oldest character first
pub record Rings : Type 0 where
  -- what was typed and not yet read
  pub input : List ℕ
  -- what was put out and not yet taken
  pub output : List ℕ

-- a line without characters
abbrev pub no_characters : Rings
no_characters = record { input = []; output = [] }

-- no line has characters
abbrev pub all_clear : List Rings
all_clear = replicate LINES no_characters

-- what was typed at a line
abbrev pub input_of : List Rings → ℕ → List ℕ
input_of lines line = (slice_index_or lines line no_characters).input

-- what was put out at a line
abbrev pub output_of : List Rings → ℕ → List ℕ
output_of lines line = (slice_index_or lines line no_characters).output

-- the lines with this input of one, and all else the same
abbrev pub with_input : List Rings → ℕ → List ℕ → List Rings
with_input lines line cs = slice_set lines line (record { input = cs; output = output_of lines line })

-- the lines with this output of one, and all else the same
abbrev pub with_output : List Rings → ℕ → List ℕ → List Rings
with_output lines line cs = slice_set lines line (record { input = input_of lines line; output = cs })

-- how many more characters the output of a line may have
abbrev pub room_of : List Rings → ℕ → ℕ
room_of lines line = OUTPUT_RING - length (output_of lines line)

-- whether input may be read as a line: it has a break character, or no more characters fit
abbrev pub holds_line : List ℕ → Bool
holds_line input = list_any is_break input || nat_le INPUT_RING (length input)

-- the answer to a character that is typed
abbrev pub typing : List Rings → ℕ → Result (Unit {0}) LineError
typing lines line =
    if nat_lt line LINES then (if nat_lt (length (input_of lines line)) INPUT_RING then Ok tt else Err Full) else Err NoLine

-- the answer to a text of so many characters that is put out
abbrev pub putting : List Rings → ℕ → ℕ → Result (Unit {0}) LineError
putting lines line count = if nat_le count (room_of lines line) then Ok tt else Err Full

-- the answer to a taker of at most n characters
abbrev pub taking : List Rings → ℕ → ℕ → Result (List ℕ) LineError
taking lines line n = if nat_lt line LINES then Ok (take (min n TAKEN_AT_ONCE) (output_of lines line)) else Err NoLine

-- a line's characters fit its rings
pub record IsWithin (rings : Rings) : Type 0 where
  pub input : length rings.input ≤ INPUT_RING
  pub output : length rings.output ≤ OUTPUT_RING

-- what holds of all lines
pub record IsLines (lines : List Rings) : Type 0 where
  pub count : length lines ≡ LINES
  pub within : All IsWithin lines
