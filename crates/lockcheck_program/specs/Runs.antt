-- What the program reads, and what it does with that (this project's profile).
use Rattle.std.specs.Prelude.{◌≡◌, ◌⊎◌, ◌≤◌, ℕ, Bool, true, false, List, Option, is_some, length}
use Rattle.std.specs.Io.KnownBytes.{Consumes, IsAtEnd}
use Rattle.clap.specs.Words.{Text}
use Rattle.program_shell.specs.Reports.{Hands, IsReported}
use Rattle.program_shell.specs.declared.statuses.TheConstants.{DONE, USAGE}
use Rattle.lockcheck_program.specs.Arguments.{AreWrong, AskFor, AskForHelp}
use Rattle.lockcheck_program.specs.Checks.{Checks, IsRefused, WantsMemory, WritesText}
use Rattle.lockcheck_program.specs.declared.arguments.Options.{Options}
use Rattle.lockcheck_program.specs.declared.input.TheConstants.{MOST_BYTES}
use Rattle.lockcheck_program.specs.declared.reading.ScriptError.TheVariants.{TooLong}

-- a script is all of the input, from i to i'; or, if a file is named, the bytes of the file, and the input is not read
abbrev pub IsScript : Bool → Option (List ℕ) → Option (List ℕ) → List ℕ → Type 0
IsScript true i i' script = i' ≡ i
IsScript false i i' script = Consumes i i' script × IsAtEnd i'

-- of the input that many bytes were read for which it is refused
abbrev pub IsTooLong : Option (List ℕ) → Option (List ℕ) → Type 0
IsTooLong i i' = (bytes : List ℕ) × Consumes i i' bytes × (MOST_BYTES ≤ length bytes)

-- the script could not be read, which was reported; of an input also that it has too many bytes
abbrev pub IsUnread : Bool → Option (List ℕ) → Option (List ℕ) → Option (List ℕ) → Option (List ℕ) → Bool → ℕ → Type 0
IsUnread true i i' e e' errors_failed status = (i' ≡ i) × IsReported e e' errors_failed status
IsUnread false i i' e e' errors_failed status =
    (IsTooLong i i' × IsRefused TooLong e e' errors_failed status) ⊎ IsReported e e' errors_failed status

-- the program looked at a script with the options that the arguments ask for
pub record LooksAt {W : Type 0} (Looks : W → W → ℕ → ℕ → Type 0) (w u : W) (arguments : List Text)
    (i i' o o' : Option (List ℕ)) (write_failed : Bool) (e e' : Option (List ℕ)) (errors_failed : Bool) (status : ℕ) : Type 0 where
  pub options : Options
  pub asked : AskFor arguments options
  pub script : List ℕ
  pub read : IsScript (is_some options.file) i i' script
  pub checks : Checks Looks w u script options.states options.all o o' write_failed e e' errors_failed status

-- the script that the arguments ask for could not be read, and nothing was written
pub record FailsToRead (arguments : List Text) (i i' o o' e e' : Option (List ℕ)) (errors_failed : Bool) (status : ℕ) : Type 0 where
  pub options : Options
  pub asked : AskFor arguments options
  pub unread : IsUnread (is_some options.file) i i' e e' errors_failed status
  pub unwritten : o' ≡ o

-- nothing was looked at: there was no memory; or the arguments were refused, which was reported; or they ask for the help or the
-- version, which was written
abbrev pub RefusesArguments : List Text → Option (List ℕ) → Option (List ℕ) → Bool → Option (List ℕ) → Option (List ℕ) → Bool → ℕ → Type 0
RefusesArguments arguments o o' write_failed e e' errors_failed status =
    ((o' ≡ o) × WantsMemory e e' errors_failed status)
    ⊎ (((o' ≡ o) × AreWrong arguments × (status ≡ USAGE) × ((text : List ℕ) × Hands e e' errors_failed text))
    ⊎ (AskForHelp arguments × ((text : List ℕ) × WritesText text DONE o o' write_failed e e' errors_failed status)))

-- the program looked at a script; or this could not be read; or the arguments ask for no script, and nothing was read
abbrev pub Runs : {W : Type 0} → (W → W → ℕ → ℕ → Type 0) → W → W → List Text → Option (List ℕ) → Option (List ℕ)
    → Option (List ℕ) → Option (List ℕ) → Bool → Option (List ℕ) → Option (List ℕ) → Bool → ℕ → Type 0
Runs Looks w u arguments i i' o o' write_failed e e' errors_failed status =
    LooksAt Looks w u arguments i i' o o' write_failed e e' errors_failed status
    ⊎ (FailsToRead arguments i i' o o' e e' errors_failed status
    ⊎ ((i' ≡ i) × RefusesArguments arguments o o' write_failed e e' errors_failed status))
