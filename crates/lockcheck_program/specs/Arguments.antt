-- What the arguments of the command line ask for (this project's profile).
use Rattle.std.specs.Prelude.{◌≡◌, ◌≢◌, ◌⊎◌, ◌==◌, ℕ, Bool, true, false, List, Option, None, Some, codes, if◌then◌else◌}
use Rattle.std.specs.Prelude.{option_and_then, option_map, string_bytes}
use Rattle.std.specs.Str.{bytes_eq}
use Rattle.clap.specs.Words.{App, IsAmong, Rule, Text, fault_of, first_of, matches_of, new_app, new_rule, with_rule}
use Rattle.clap.specs.declared.builder.action.ArgAction.TheVariants.{SetTrue}
use Rattle.clap.specs.declared.error.kind.ErrorKind.{ErrorKind}
use Rattle.clap.specs.declared.error.kind.ErrorKind.TheVariants as kind
use Rattle.script_io.specs.Numbers.{number}
use Rattle.lockcheck_program.specs.declared.arguments.Options.{Options}
use Rattle.lockcheck_program.specs.declared.arguments.TheConstants.{DEFAULT_STATES, MOST_STATES}

-- ---- the command line: `--states N`, `--all` and FILE, beside `--help` and `--version`

abbrev pub states_rule : Rule
states_rule = record (new_rule (codes "states")) { long = Some (codes "states"); value_names = 1 }

abbrev pub all_rule : Rule
all_rule = record (new_rule (codes "all")) { long = Some (codes "all"); action = Some SetTrue }

abbrev pub file_rule : Rule
file_rule = new_rule (codes "FILE")

-- `--version` is taken
abbrev pub versioned : App → App
versioned a = record a { top = record a.top { has_version = true } }

abbrev pub app : App
app = with_rule (with_rule (with_rule (versioned (new_app (codes "lockcheck"))) states_rule) all_rule) file_rule

-- ---- what it is asked for

-- how many states are kept at most: 1,000,000 if no number is written, else the number, from 1 to 1,000,000,000
abbrev pub states_of : Option Text → Option ℕ
states_of None = Some DEFAULT_STATES
states_of (Some text) = option_and_then (λ n. if n == 0 then None else Some n) (number 10 MOST_STATES text)

-- an option without a value is given: it is noted by the word `true`
abbrev pub is_noted : Option Text → Bool
is_noted None = false
is_noted (Some word) = bytes_eq word (codes "true")

-- the options are those for which an argument with this id has this text
pub record AreOptions (given : Text → Option Text) (options : Options) : Type 0 where
  pub states : states_of (given (codes "states")) ≡ Some options.states
  pub all : options.all ≡ is_noted (given (codes "all"))
  pub file : option_map string_bytes options.file ≡ given (codes "FILE")

-- the text that the arguments give to an id
abbrev pub given_by : List Text → Text → Option Text
given_by arguments id = first_of id (matches_of app arguments)

-- the arguments ask for these options
abbrev pub AskFor : List Text → Options → Type 0
AskFor arguments options = AreOptions (given_by arguments) options

-- ---- why they are refused

-- an error of this kind: there was no memory, it is one that the command line gives at the arguments, or they ask for a number of
-- states that is out of range
abbrev pub IsDue : List Text → ErrorKind → Type 0
IsDue arguments k =
    (k ≡ kind.OutOfMemory)
    ⊎ (IsAmong k (fault_of app arguments) ⊎ ((k ≡ kind.ValueValidation) × (states_of (given_by arguments (codes "states")) ≡ None)))

-- the arguments ask for the help or the version
abbrev pub AskForHelp : List Text → Type 0
AskForHelp arguments =
    IsAmong kind.DisplayHelp (fault_of app arguments) ⊎ IsAmong kind.DisplayVersion (fault_of app arguments)

-- the arguments are not in the form that the command line takes, or ask for a number of states that is out of range
abbrev pub AreWrong : List Text → Type 0
AreWrong arguments =
    ((k : ErrorKind) × (k ≢ kind.DisplayHelp) × (k ≢ kind.DisplayVersion) × IsAmong k (fault_of app arguments))
    ⊎ (states_of (given_by arguments (codes "states")) ≡ None)
