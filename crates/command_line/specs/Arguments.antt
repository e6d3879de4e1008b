-- What the arguments of the command line ask for (this project's profile).
use Rattle.std.specs.Prelude.{◌≡◌, ◌==◌, ◌⊎◌, ℕ, true, false, List, [], ◌∷◌, Option, None, Some, codes, if◌then◌else◌}
use Rattle.std.specs.Prelude.{option_and_then}
use Rattle.std.specs.Str.{bytes_eq}
use Rattle.clap.specs.Words.{App, Row, Rule, Text, first_of, new_app, new_rule, subcommand_of, takes, with_rule, with_subcommand}
use Rattle.script_io.specs.Numbers.{number}
use Rattle.machine.specs.Setups.{IsSetup}
use Rattle.machine.specs.declared.sizes.TheConstants.{MOST_QUANTUM}
use Rattle.word36.specs.declared.sizes.TheConstants.{MOST_BLOCKS}
use Rattle.command_line.specs.declared.commands.Choice.{Choice}
use Rattle.command_line.specs.declared.commands.Choice.TheVariants.{Run, Queue, Asm}
use Rattle.program_shell.specs.declared.refusal.Refusal.{Refusal}
use Rattle.program_shell.specs.declared.refusal.Refusal.TheVariants.{Memory, Usage}

-- ---- the command line: `run` with two options, `queue` and `asm`

abbrev pub option_rule : Text → Text → Rule
option_rule name value = record (new_rule name) { long = Some name; value_names = 1; defaults = value ∷ [] }

abbrev pub run_app : App
run_app = with_rule (with_rule (new_app (codes "run")) (option_rule (codes "blocks") (codes "64")))
    (option_rule (codes "quantum") (codes "1"))

abbrev pub required : App → App
required a = record a { top = record a.top { subcommand_required = true } }

-- `--version` is taken
abbrev pub versioned : App → App
versioned a = record a { top = record a.top { has_version = true } }

abbrev pub app : App
app = with_subcommand (with_subcommand (with_subcommand (required (versioned (new_app (codes "lockmon")))) run_app.top)
    (new_app (codes "queue")).top) (new_app (codes "asm")).top

-- ---- what it is asked for

-- a number from 1 to the most
abbrev pub number_in : ℕ → Option Text → Option ℕ
number_in most None = None
number_in most (Some text) = option_and_then (λ n. if n == 0 then None else Some n) (number 10 most text)

-- `run` with its two numbers, which both have to be in range
abbrev pub run_of : Option ℕ → Option ℕ → Option Choice
run_of (Some blocks) (Some quantum) = Some (Run blocks quantum)
run_of (Some blocks) None = None
run_of None quantum = None

-- a subcommand with what was given to it
abbrev pub choice_of : Option (Text × List Row) → Option Choice
choice_of None = None
choice_of (Some p) =
    if bytes_eq p.0 (codes "run")
    then run_of (number_in MOST_BLOCKS (first_of (codes "blocks") p.1)) (number_in MOST_QUANTUM (first_of (codes "quantum") p.1))
    else (if bytes_eq p.0 (codes "queue") then Some Queue
    else (if bytes_eq p.0 (codes "asm") then Some Asm else None))

-- the numbers of `run` are those of a machine
abbrev pub IsRight : Choice → Type 0
IsRight (Run blocks quantum) = IsSetup blocks quantum
IsRight Queue = Unit {0}
IsRight Asm = Unit {0}

-- a refusal for another cause than memory comes only where clap takes other arguments, or they ask for nothing that there is
abbrev pub IsDue : Refusal → List Text → Type 0
IsDue Memory arguments = Unit {0}
IsDue (Usage e) arguments = (takes app arguments ≡ false) ⊎ (choice_of (subcommand_of app arguments) ≡ None)
