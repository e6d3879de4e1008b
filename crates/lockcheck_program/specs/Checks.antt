-- What the program makes of a script: what it writes, and its status (this project's profile).
use Rattle.std.specs.Prelude.{◌≡◌, ◌⊎◌, ◌++◌, ℕ, Bool, true, false, List, take, Option, Result, Ok, Err, codes, decimal}
use Rattle.std.specs.Io.KnownBytes.{Appends}
use Rattle.std.specs.Str.Lines.{lines}
use Rattle.lockcheck_orders.specs.Verdicts.{IsFollowed, IsLooked}
use Rattle.lockcheck_orders.specs.declared.lines.Line.{Line}
use Rattle.lockcheck_orders.specs.declared.lines.TheConstants.{MOST_LINES}
use Rattle.lockcheck_orders.specs.declared.verdicts.Looked.{Looked}
use Rattle.program_shell.specs.Reports.{Hands}
use Rattle.program_shell.specs.declared.statuses.TheConstants.{FAILED, REFUSED}
use Rattle.lockcheck_program.specs.Reading.{programs_of}
use Rattle.lockcheck_program.specs.Reports.{looked_status, looked_text}
use Rattle.lockcheck_program.specs.declared.reading.ScriptError.{ScriptError}
use Rattle.lockcheck_program.specs.declared.reading.ScriptError.TheVariants.{Memory, Line as RefusedLine, TooLong}

-- the text and the status are those of what is true of all orders of the calls of the script's programs, or of its giving up
-- behind so many states; the observer, w at first and u now, was shown the way of the search
pub record IsFound {W : Type 0} (Looks : W → W → ℕ → ℕ → Type 0) (w u : W)
    (script : List ℕ) (most : ℕ) (with_answers : Bool) (text : List ℕ) (status : ℕ) : Type 0 where
  pub programs : List Line
  pub read : programs_of script ≡ Ok programs
  pub looked : Looked
  pub looks : IsLooked programs most with_answers looked
  pub followed : IsFollowed programs Looks w u looked
  pub words : text ≡ looked_text (lines script) programs looked
  pub ended : status ≡ looked_status looked

-- all of a text was written to an output, from o to o', and the program ends with this status; or the output failed behind a
-- beginning, which was reported to standard error, from e to e'
abbrev pub WritesText : List ℕ → ℕ → Option (List ℕ) → Option (List ℕ) → Bool → Option (List ℕ) → Option (List ℕ) → Bool → ℕ → Type 0
WritesText text due o o' write_failed e e' errors_failed status =
    ((status ≡ due) × Appends o o' text × (write_failed ≡ false) × (e' ≡ e))
    ⊎ ((status ≡ FAILED) × ((n : ℕ) × Appends o o' (take n text)) × (write_failed ≡ true)
    × Hands e e' errors_failed (codes "lockcheck: write\n"))

-- the line on a refused line
abbrev pub refusal_line : ℕ → List ℕ → List ℕ
refusal_line number words = codes "lockcheck: line " ++ decimal number ++ codes ": " ++ words ++ codes "\n"

-- the line on a script that is refused: it names the refused line, whatever it says of it
abbrev pub IsRefusalLine : ScriptError → List ℕ → Type 0
IsRefusalLine Memory text = false ≡ true
IsRefusalLine (RefusedLine n) text = (words : List ℕ) × (text ≡ refusal_line n words)
IsRefusalLine TooLong text = text ≡ codes "lockcheck: the script has more than " ++ decimal MOST_LINES ++ codes " lines\n"

-- the program reported that there was no memory, and failed
abbrev pub WantsMemory : Option (List ℕ) → Option (List ℕ) → Bool → ℕ → Type 0
WantsMemory e e' errors_failed status = (status ≡ FAILED) × Hands e e' errors_failed (codes "lockcheck: memory\n")

-- a script was refused for this reason, which was reported
abbrev pub IsRefused : ScriptError → Option (List ℕ) → Option (List ℕ) → Bool → ℕ → Type 0
IsRefused reason e e' errors_failed status =
    (status ≡ REFUSED) × ((text : List ℕ) × IsRefusalLine reason text × Hands e e' errors_failed text)

-- a script of these programs was refused for the reason that they give, or there was no memory
abbrev pub RefusesScript : Result (List Line) ScriptError → Option (List ℕ) → Option (List ℕ) → Bool → ℕ → Type 0
RefusesScript programs e e' errors_failed status =
    ((reason : ScriptError) × (programs ≡ Err reason) × IsRefused reason e e' errors_failed status)
    ⊎ WantsMemory e e' errors_failed status

-- the report on a script was written; or nothing was, since the script was refused or there was no memory
abbrev pub Checks : {W : Type 0} → (W → W → ℕ → ℕ → Type 0) → W → W → List ℕ → ℕ → Bool
    → Option (List ℕ) → Option (List ℕ) → Bool → Option (List ℕ) → Option (List ℕ) → Bool → ℕ → Type 0
Checks Looks w u script most with_answers o o' write_failed e e' errors_failed status =
    ((text : List ℕ) × (due : ℕ) × IsFound Looks w u script most with_answers text due
    × WritesText text due o o' write_failed e e' errors_failed status)
    ⊎ ((o' ≡ o) × RefusesScript (programs_of script) e e' errors_failed status)
