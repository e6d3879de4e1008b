-- What is seen along the lines of a script on the lock queue (this project's profile).
use Rattle.std.specs.Prelude.{◌≡◌, ◌<◌, ◌≤◌, ◌&&◌, ℕ, zero, suc, Bool, true, false, ◌+◌, List, [], ◌∷◌, ◌++◌}
use Rattle.std.specs.Prelude.{Option, Some, None, IsSome, nat_le}
use Rattle.std.specs.List.{list_any}
use Rattle.std.specs.Str.Lines.{lines}
use Rattle.word36.specs.declared.sizes.TheConstants.{MOST_REQUESTS}
use Rattle.lock_queue.specs.declared.request.Request.{Request}
use Rattle.queue_script.specs.Commands.{command_of}
use Rattle.queue_script.specs.QueueScripts.{effect_of}
use Rattle.script_io.specs.declared.endings.Ending.{Ending}
use Rattle.script_io.specs.declared.endings.Ending.TheVariants as ending
use Rattle.lock_bars.specs.Bars.{bars_after, is_over}
use Rattle.lock_bars.specs.Holds.{holds_of, same_hold}
use Rattle.lock_bars.specs.declared.bars.Bar.{Bar}
use Rattle.lock_bars.specs.declared.columns.Column.{Column}
use Rattle.lock_bars.specs.declared.holds.Hold.{Hold}
use Rattle.lock_bars.specs.declared.errors.ScriptError.{ScriptError}
use Rattle.lock_bars.specs.declared.errors.TheConstants.{MOST_LINES}
use Rattle.lock_bars.specs.declared.errors.ScriptError.TheVariants.{Memory, Line, TooLong, Short, NoEnd, Source}

-- what is seen of a script: the bars along its lines, how many lines they are, and how it ends
pub record Course : Type 0 where
  pub bars : List Bar
  pub lines : ℕ
  pub ending : Ending

-- what was seen where the script ends, and otherwise what is seen further on
abbrev pub unless_over : Option Ending → ℕ → List Bar → Course → Course
unless_over (Some e) n bars onward = record { bars = bars; lines = n; ending = e }
unless_over None n bars onward = onward

-- the columns of so many lines: one a line
abbrev pub line_columns : ℕ → List Column
line_columns zero = []
line_columns (suc n) = line_columns n ++ record { line = suc n; tick = 0 } ∷ []

-- along lines on a queue of some size, where n lines have left these requests and these bars: each line does what it does
-- in the transcript, and the bars after it are those by the requests that it leaves
abbrev pub course_of : ℕ → List Request → ℕ → List (List ℕ) → List Bar → Course
course_of size requests n [] bars = record { bars = bars; lines = n; ending = ending.Done }
course_of size requests n (line ∷ more) bars =
    unless_over (effect_of size (n + 1) requests (command_of line)).ending n bars
    (course_of size (effect_of size (n + 1) requests (command_of line)).requests (n + 1) more
    (bars_after (n + 1) bars (effect_of size (n + 1) requests (command_of line)).requests))

-- along a script on a queue of the largest size, which is empty at first
abbrev pub course : List ℕ → Course
course script = course_of MOST_REQUESTS [] 0 (lines script) []

-- the requests behind so many of the lines, where n lines have left these ones
abbrev pub requests_after : ℕ → ℕ → List Request → ℕ → List (List ℕ) → List Request
requests_after size zero requests n lines = requests
requests_after size (suc k) requests n [] = requests
requests_after size (suc k) requests n (line ∷ more) =
    requests_after size k (effect_of size (n + 1) requests (command_of line)).requests (n + 1) more

-- behind so many lines of a script, on a queue of the largest size, which is empty at first
abbrev pub requests_behind : ℕ → List ℕ → List Request
requests_behind k script = requests_after MOST_REQUESTS k [] 0 (lines script)

-- each bar lasts exactly as long as its holding: of the lines that were seen, a bar shows a holding over a line exactly
-- where the holding is one of the queue behind that line
abbrev pub Lasts : Course → List ℕ → Type 0
Lasts seen script =
    (k : ℕ) (hold : Hold) → 1 ≤ k → k ≤ seen.lines
    → list_any (is_over k hold) seen.bars ≡ list_any (same_hold hold) (holds_of (requests_behind k script))

-- whether a script that goes on for so many lines has the line that is asked for
abbrev pub has_line : ℕ → Option ℕ → Bool
has_line lines None = false
has_line lines (Some n) = nat_le 1 n && nat_le n lines

-- why a script of so many lines, of which this is seen, is not drawn with the waits behind the line that is asked for: it ends
-- at the line behind those that were seen, which is at fault; it goes on behind as many lines as are drawn; or it ends well,
-- and before the line that was asked for
abbrev pub IsFaultOf : Option ℕ → ℕ → Course → ScriptError → Type 0
IsFaultOf at count seen Memory = Unit {0}
IsFaultOf at count seen (Line n) = (seen.ending ≡ ending.Script n) × (n ≡ seen.lines + 1)
IsFaultOf at count seen TooLong = (MOST_LINES ≤ seen.lines) × (MOST_LINES < count)
IsFaultOf at count seen (Short n) =
    (seen.ending ≡ ending.Done) × (n ≡ seen.lines) × IsSome at × (has_line seen.lines at ≡ false)
IsFaultOf at count seen (NoEnd n) = false ≡ true
IsFaultOf at count seen (Source fault) = false ≡ true
