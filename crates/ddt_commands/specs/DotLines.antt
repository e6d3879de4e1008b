-- What a command says that begins with a point: its word, in upper or lower case, and what stands behind that; and what any
-- line says (this project's profile; the manual's chapter on `ddt` has the commands).
use Rattle.std.specs.Prelude.{◌≡◌, ◌≢◌, ℕ, ◌==◌, ◌&&◌, ◌^◌, Bool, true, false, nat_le, nat_lt, List, length, drop, slice_index, if◌then◌else◌}
use Rattle.std.specs.Prelude.{codes, Option, Some, None, Result, Ok, Err}
use Rattle.std.specs.List.{after_first, before_first}
use Rattle.word36.specs.declared.sizes.TheConstants.{JOBS, LINES}
use Rattle.ddt_commands.specs.Lines.{break_of, command_in, is_dot}
use Rattle.ddt_commands.specs.Numbers.{decimal_in}
use Rattle.ddt_commands.specs.Texts.{behind_blanks, first_word, has, is_byte, is_name, trimmed}
use Rattle.ddt_commands.specs.Values.{◌>>=◌, address_of}
use Rattle.ddt_commands.specs.declared.values.Scope.{Scope}
use Rattle.ddt_commands.specs.declared.commands.Command.{Command}
use Rattle.ddt_commands.specs.declared.commands.Command.TheVariants as command
use Rattle.ddt_commands.specs.declared.dot_commands.DotCommand.{DotCommand}
use Rattle.ddt_commands.specs.declared.dot_commands.DotCommand.TheVariants as dot
use Rattle.ddt_commands.specs.declared.dot_commands.LoneCommand.{LoneCommand}
use Rattle.ddt_commands.specs.declared.dot_commands.LoneCommand.TheVariants as lone
use Rattle.ddt_commands.specs.declared.line_errors.LineError.{LineError}
use Rattle.ddt_commands.specs.declared.line_errors.LineError.TheVariants as fault

-- ---- the words

-- the command that a word names
abbrev pub dot_of : List ℕ → Option DotCommand
dot_of w =
    if is_name (codes "BACK") w then Some dot.Back else
    if is_name (codes "BREAK") w then Some dot.Break else
    if is_name (codes "DO") w then Some dot.Do else
    if is_name (codes "EX") w then Some dot.Ex else
    if is_name (codes "FORWARD") w then Some (dot.Lone lone.Forward) else
    if is_name (codes "HELP") w then Some dot.Help else
    if is_name (codes "HISTORY") w then Some dot.History else
    if is_name (codes "JOB") w then Some dot.Job else
    if is_name (codes "JOBS") w then Some (dot.Lone lone.Jobs) else
    if is_name (codes "LOCKS") w then Some (dot.Lone lone.Locks) else
    if is_name (codes "QUIT") w then Some (dot.Lone lone.Quit) else
    if is_name (codes "RECORD") w then Some dot.Record else
    if is_name (codes "REGS") w then Some (dot.Lone lone.Regs) else
    if is_name (codes "RUN") w then Some dot.Run else
    if is_name (codes "SAVE") w then Some dot.Save else
    if is_name (codes "STEP") w then Some dot.Step else
    if is_name (codes "TAKE") w then Some (dot.Lone lone.Take) else
    if is_name (codes "TICK") w then Some dot.Tick else
    if is_name (codes "TYPE") w then Some dot.Type else
    if is_name (codes "WAITS") w then Some (dot.Lone lone.Waits) else
    if is_name (codes "WATCH") w then Some dot.Watch else None

-- ---- commands with nothing, with a number, and with a text behind them

-- whether nothing stands there
abbrev pub is_none_left : List ℕ → Bool
is_none_left rest = length rest == 0

abbrev pub lone_of : LoneCommand → Command
lone_of lone.Forward = command.Forward
lone_of lone.Jobs = command.Jobs
lone_of lone.Locks = command.Locks
lone_of lone.Quit = command.Quit
lone_of lone.Regs = command.Registers
lone_of lone.Take = command.Take
lone_of lone.Waits = command.Waits

-- a number in a range
abbrev pub in_range : ℕ → ℕ → Option ℕ → Result ℕ LineError
in_range least most (Some n) = if nat_le least n && nat_le n most then Ok n else Err (fault.NoCount least most)
in_range least most None = Err (fault.NoCount least most)

-- the decimal number behind a command, one if nothing stands there
abbrev pub count_in : ℕ → ℕ → ℕ → List ℕ → Result ℕ LineError
count_in least most default rest = if is_none_left rest then Ok default else in_range least most (decimal_in rest)

-- a command with a number
abbrev pub with_count : (ℕ → Command) → Result ℕ LineError → Result Command LineError
with_count command (Ok n) = Ok (command n)
with_count command (Err e) = Err e

-- the number of a job
abbrev pub job_in : Option ℕ → Result Command LineError
job_in (Some n) = if nat_le 1 n && nat_le n JOBS then Ok (command.Job n) else Err fault.NoJob
job_in None = Err fault.NoJob

-- `.SAVE file`, `.RECORD file`, `.DO file`
abbrev pub SaysSave : List ℕ → Result Command LineError → Type 0
SaysSave rest (Ok (command.Save file)) = (length rest ≢ 0) × (file.now ≡ rest)
SaysSave rest (Err fault.NoFile) = length rest ≡ 0
SaysSave rest _ = ⊥

abbrev pub SaysRecord : List ℕ → Result Command LineError → Type 0
SaysRecord rest (Ok (command.Record file)) = (length rest ≢ 0) × (file.now ≡ rest)
SaysRecord rest (Err fault.NoFile) = length rest ≡ 0
SaysRecord rest _ = ⊥

abbrev pub SaysDo : List ℕ → Result Command LineError → Type 0
SaysDo rest (Ok (command.Do file)) = (length rest ≢ 0) × (file.now ≡ rest)
SaysDo rest (Err fault.NoFile) = length rest ≡ 0
SaysDo rest _ = ⊥

-- `.HELP word`, whose word may be missing
abbrev pub SaysHelp : List ℕ → Result Command LineError → Type 0
SaysHelp rest (Ok (command.Help word)) = word.now ≡ rest
SaysHelp rest _ = ⊥

-- `.TYPE line text`: the number of a terminal line, and the text behind it
abbrev pub is_line : Option ℕ → Bool
is_line (Some n) = nat_lt n LINES
is_line None = false

abbrev pub SaysType : Option ℕ → List ℕ → Result Command LineError → Type 0
SaysType number typed (Ok (command.Type line text)) = (is_line number ≡ true) × (number ≡ Some line) × (text.now ≡ typed)
SaysType number typed (Err fault.NoLine) = is_line number ≡ false
SaysType number typed _ = ⊥

-- ---- commands with an address

-- `.BACK n`, `.BACK TO a` and `.BACK WRITE a`
abbrev pub back_of : Scope → List ℕ → Result Command LineError
back_of scope rest =
    if is_name (codes "TO") (first_word rest)
    then (address_of scope (behind_blanks rest) >>= λ address. Ok (command.BackTo address))
    else if is_name (codes "WRITE") (first_word rest)
    then (address_of scope (behind_blanks rest) >>= λ address. Ok (command.BackWrite address))
    else with_count command.Back (count_in 0 (2 ^ 39) 1 rest)

-- `.EX a-b` and `.EX a`
abbrev pub examine_of : Scope → List ℕ → Result Command LineError
examine_of scope rest =
    if has (is_byte 45) rest
    then
    (address_of scope (before_first (is_byte 45) rest) >>= λ first. address_of scope (after_first (is_byte 45) rest) >>= λ last.
    Ok (command.Examine first last))
    else address_of scope rest >>= λ first. Ok (command.Examine first first)

abbrev pub watch_of : Scope → List ℕ → Result Command LineError
watch_of scope rest = address_of scope rest >>= λ address. Ok (command.Watch address)

-- the name of a lock, which may not be missing
abbrev pub SaysLock : List ℕ → Result Command LineError → Type 0
SaysLock name (Ok (command.BreakLock text)) = (length name ≢ 0) × (text.now ≡ name)
SaysLock name (Err fault.NoLock) = length name ≡ 0
SaysLock name _ = ⊥

-- `.BREAK a` with its limits, `.BREAK LOCK name`, `.BREAK GRANT` and `.BREAK CIRCLE`
abbrev pub SaysBreak : Scope → List ℕ → Result Command LineError → Type 0
SaysBreak scope rest result =
    elim (is_name (codes "GRANT") (first_word rest)) [
      | true ↦ result ≡ Ok command.BreakGrant
      | false ↦ elim (is_name (codes "CIRCLE") (first_word rest)) [
        | true ↦ result ≡ Ok command.BreakCircle
        | false ↦ elim (is_name (codes "LOCK") (first_word rest)) [
          | true ↦ SaysLock (behind_blanks rest) result
          | false ↦ result ≡ break_of scope rest
        ]
      ]
    ]

-- ---- all dot commands, by the word, and the text after it

abbrev pub SaysDot : Scope → List ℕ → Option DotCommand → Result Command LineError → Type 0
SaysDot scope rest (Some (dot.Lone word)) result = result ≡ (if is_none_left rest then Ok (lone_of word) else Err fault.BehindCommand)
SaysDot scope rest (Some dot.Back) result = result ≡ back_of scope rest
SaysDot scope rest (Some dot.Break) result = SaysBreak scope rest result
SaysDot scope rest (Some dot.Do) result = SaysDo rest result
SaysDot scope rest (Some dot.Ex) result = result ≡ examine_of scope rest
SaysDot scope rest (Some dot.Help) result = SaysHelp rest result
SaysDot scope rest (Some dot.History) result = result ≡ with_count command.History (count_in 1 1000 10 rest)
SaysDot scope rest (Some dot.Job) result = result ≡ job_in (decimal_in rest)
SaysDot scope rest (Some dot.Record) result = SaysRecord rest result
SaysDot scope rest (Some dot.Run) result = result ≡ with_count command.Run (count_in 1 1000000000 10000000 rest)
SaysDot scope rest (Some dot.Save) result = SaysSave rest result
SaysDot scope rest (Some dot.Step) result = result ≡ with_count command.Step (count_in 1 1000000000 1 rest)
SaysDot scope rest (Some dot.Tick) result = result ≡ with_count command.Tick (count_in 1 6000 1 rest)
SaysDot scope rest (Some dot.Type) result = SaysType (decimal_in (first_word rest)) (behind_blanks rest) result
SaysDot scope rest (Some dot.Watch) result = result ≡ watch_of scope rest
SaysDot scope rest None result = result ≡ Err fault.NoCommand

-- ---- all lines

-- a line without blanks round it
abbrev pub SaysText : Scope → List ℕ → Result Command LineError → Type 0
SaysText scope text result =
    elim (is_dot text) [
      | true ↦ SaysDot scope (behind_blanks (drop 1 text)) (dot_of (first_word (drop 1 text))) result
      | false ↦ result ≡ command_in scope text
    ]

-- a line as it is typed: an empty one and a tab say something too
abbrev pub SaysLine : Scope → List ℕ → Result Command LineError → Type 0
SaysLine scope line result =
    elim (length line == 0) [
      | true ↦ result ≡ Ok command.Next
      | false ↦ elim ((length line == 1) && (slice_index line 0 == 9)) [ true ↦ result ≡ Ok command.Addressed | false ↦ SaysText scope (trimmed line) result ]
    ]
