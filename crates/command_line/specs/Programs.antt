-- What the program does for the arguments of its command line, and the status that it ends with (this project's profile).
use Rattle.std.specs.Prelude.{◌≡◌, ◌⊎◌, ◌==◌, ◌+◌, ℕ, Bool, true, false, List, ◌++◌, Option, None, Some, Result, Ok, Err, IfErr}
use Rattle.std.specs.Prelude.{if◌then◌else◌, codes, decimal}
use Rattle.std.specs.Io.KnownBytes.{Keeps}
use Rattle.clap.specs.Words.{Text, subcommand_of, takes}
use Rattle.script_io.specs.Serves.{Serves, Blames}
use Rattle.script_io.specs.Transcripts.{Transcript}
use Rattle.script_io.specs.declared.failures.ServeFailure.{ServeFailure}
use Rattle.script_io.specs.declared.failures.ServeFailure.TheVariants as failed
use Rattle.asm_script.specs.Listings.{listing}
use Rattle.machine.specs.Setups.{Setup}
use Rattle.op_script.specs.Heads.{is_other, other_text}
use Rattle.op_script.specs.RunScripts as run
use Rattle.queue_script.specs.QueueScripts.{transcript}
use Rattle.script_io.specs.declared.endings.Ending.{Ending}
use Rattle.script_io.specs.declared.endings.Ending.TheVariants as ending
use Rattle.script_io.specs.declared.endings.SourceFault.{SourceFault}
use Rattle.program_shell.specs.Reports.{Hands}
use Rattle.program_shell.specs.declared.statuses.TheConstants.{DONE, REFUSED, USAGE, FAILED}
use Rattle.command_line.specs.Arguments.{app, choice_of}
use Rattle.command_line.specs.declared.commands.Choice.{Choice}
use Rattle.command_line.specs.declared.commands.Choice.TheVariants.{Run, Queue, Asm}

-- what the arguments ask for, where that is a command with its numbers
abbrev pub asked : List Text → Option Choice
asked arguments = choice_of (subcommand_of app arguments)

-- the transcript of a command's input
abbrev pub language_of : Choice → List ℕ → Transcript Ending
language_of Queue = transcript
language_of Asm = listing
language_of (Run blocks quantum) = run.transcript blocks quantum

-- 0 where all was done, 1 where the script or the source was refused, 3 where a port or memory failed
abbrev pub status_of : Result Ending ServeFailure → ℕ
status_of (Ok ending.Done) = DONE
status_of (Ok (ending.Script number)) = REFUSED
status_of (Ok (ending.Source fault)) = REFUSED
status_of (Err failure) = FAILED

-- the line that standard error gets of what failed
abbrev pub failure_line : ServeFailure → List ℕ
failure_line failed.Read = codes "lockmon: read\n"
failure_line failed.Write = codes "lockmon: write\n"
failure_line failed.Memory = codes "lockmon: memory\n"

-- where a script or a source came to its end nothing is reported there; of a failure its line is
abbrev pub ReportsAnswer : Result Ending ServeFailure → Option (List ℕ) → Option (List ℕ) → Bool → Type 0
ReportsAnswer (Ok ending) e e' errors_failed = e' ≡ e
ReportsAnswer (Err failure) e e' errors_failed = Hands e e' errors_failed (failure_line failure)

-- ---- the line on what is wrong, which may go to another port on standard error, from t to t'

-- the line of this number is spoken of
abbrev pub place_of_line : ℕ → List ℕ
place_of_line number = codes "lockmon: line " ++ decimal number

-- a line of a source is spoken of by its number in the input and, where it stands in a script, by that in the source
abbrev pub place_of_source : SourceFault → List ℕ
place_of_source fault =
    if fault.before == 0 then place_of_line fault.line
    else place_of_line (fault.before + fault.line) ++ codes ", line " ++ decimal fault.line ++ codes " of its source"

-- a text is a line on a place, whatever it says of it
abbrev pub IsLineOn : List ℕ → List ℕ → Type 0
IsLineOn place text = (reason : List ℕ) × (text ≡ place ++ codes ": " ++ reason ++ codes "\n")

-- nothing was reported, or a line on a place
abbrev pub ReportsOf : List ℕ → Option (List ℕ) → Option (List ℕ) → Bool → Type 0
ReportsOf place t t' reports_failed = (t' ≡ t) ⊎ ((text : List ℕ) × IsLineOn place text × Hands t t' reports_failed text)

-- where a script or a source was refused, the line at which its transcript ends is reported; otherwise nothing
abbrev pub ReportsFault : Result Ending ServeFailure → Option (List ℕ) → Option (List ℕ) → Bool → Type 0
ReportsFault (Ok ending.Done) t t' reports_failed = t' ≡ t
ReportsFault (Ok (ending.Script number)) t t' reports_failed = ReportsOf (place_of_line number) t t' reports_failed
ReportsFault (Ok (ending.Source fault)) t t' reports_failed = ReportsOf (place_of_source fault) t t' reports_failed
ReportsFault (Err failure) t t' reports_failed = t' ≡ t

-- ---- the line on a script that is obeyed on another machine than its first line names, which may go to another port, from n to n'

abbrev pub head_line : Setup → Setup → List ℕ
head_line said taken = codes "lockmon: " ++ (other_text said taken ++ codes "\n")

-- nothing is reported, or that line, which names another machine
abbrev pub TellsHead : Setup → Option (List ℕ) → Option (List ℕ) → Bool → Type 0
TellsHead taken n n' notes_failed =
    (n' ≡ n) ⊎ ((said : Setup) × (is_other said taken ≡ true) × Hands n n' notes_failed (head_line said taken))

-- of the machine of a command; the other commands have none
abbrev pub TellsHeadFor : Choice → Option (List ℕ) → Option (List ℕ) → Bool → Type 0
TellsHeadFor (Run blocks quantum) n n' notes_failed =
    (taken : Setup) × (taken.blocks ≡ blocks) × (taken.quantum ≡ quantum) × TellsHead taken n n' notes_failed
TellsHeadFor Queue n n' notes_failed = n' ≡ n
TellsHeadFor Asm n n' notes_failed = n' ≡ n

-- of the machine on which the script is obeyed, for which the arguments ask
abbrev pub TellsHeadOf : List Text → Option (List ℕ) → Option (List ℕ) → Bool → Type 0
TellsHeadOf arguments n n' notes_failed =
    (n' ≡ n) ⊎ ((choice : Choice) × (asked arguments ≡ Some choice) × TellsHeadFor choice n n' notes_failed)

-- ---- the whole program

-- the transcript of the command that the arguments ask for was served, which took its input from i to i' and its output from
-- o to o', and the status and standard error, from e to e', show how that ended
pub record ServesAsked (arguments : List Text) (i i' o o' e e' : Option (List ℕ))
    (read_failed write_failed errors_failed : Bool) (status : ℕ) : Type 0 where
  pub command : Choice
  pub asks : asked arguments ≡ Some command
  pub answer : Result Ending ServeFailure
  pub serves : Serves (language_of command) i i' o o' answer
  pub blames : IfErr answer (λ failure. Blames failure read_failed write_failed)
  pub ended : status ≡ status_of answer
  pub line : ReportsAnswer answer e e' errors_failed

-- the arguments are not in the form that the command line takes, or ask for no command that is there
abbrev pub IsWrong : List Text → Type 0
IsWrong arguments = (takes app arguments ≡ false) ⊎ (asked arguments ≡ None)

-- the arguments were refused for want of the right ones, which is status 2, or of memory, which is status 3 and has its line on
-- standard error
abbrev pub ReportsArguments : List Text → Option (List ℕ) → Option (List ℕ) → Bool → ℕ → Type 0
ReportsArguments arguments e e' errors_failed status =
    ((status ≡ USAGE) × IsWrong arguments) ⊎ ((status ≡ FAILED) × Hands e e' errors_failed (failure_line failed.Memory))

-- nothing was read or written, since the arguments were refused
pub record Refuses (arguments : List Text) (i i' o o' e e' : Option (List ℕ)) (errors_failed : Bool) (status : ℕ) : Type 0 where
  pub unread : Keeps i i'
  pub unwritten : Keeps o o'
  pub why : ReportsArguments arguments e e' errors_failed status

-- the program served what the arguments ask for, or refused them
abbrev pub Runs : List Text → Option (List ℕ) → Option (List ℕ) → Option (List ℕ) →
    Option (List ℕ) → Option (List ℕ) → Option (List ℕ) → Bool → Bool → Bool → ℕ → Type 0
Runs arguments i i' o o' e e' read_failed write_failed errors_failed status =
    ServesAsked arguments i i' o o' e e' read_failed write_failed errors_failed status
    ⊎ Refuses arguments i i' o o' e e' errors_failed status

-- the same, where what was refused is reported by a line
pub record ServesReporting (arguments : List Text) (i i' o o' e e' t t' : Option (List ℕ))
    (read_failed write_failed errors_failed reports_failed : Bool) (status : ℕ) : Type 0 where
  pub served : ServesAsked arguments i i' o o' e e' read_failed write_failed errors_failed status
  pub fault : ReportsFault served.answer t t' reports_failed

abbrev pub RunsReporting : List Text → Option (List ℕ) → Option (List ℕ) → Option (List ℕ) → Option (List ℕ) →
    Option (List ℕ) → Option (List ℕ) → Option (List ℕ) → Option (List ℕ) → Bool → Bool → Bool → Bool → ℕ → Type 0
RunsReporting arguments i i' o o' e e' t t' read_failed write_failed errors_failed reports_failed status =
    ServesReporting arguments i i' o o' e e' t t' read_failed write_failed errors_failed reports_failed status
    ⊎ (Refuses arguments i i' o o' e e' errors_failed status × (t' ≡ t))
