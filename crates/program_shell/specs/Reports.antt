-- What a program hands to its outputs (this project's profile).
use Rattle.std.specs.Prelude.{◌≡◌, ◌⊎◌, ℕ, Bool, true, false, List, Option, Result}
use Rattle.script_io.specs.Ports.{WritesAll}
use Rattle.script_io.specs.declared.ports.Failed.{Failed}
use Rattle.program_shell.specs.declared.statuses.TheConstants.{DONE, FAILED, USAGE}

-- standard error, from e to e', was handed all of a text, and took it, or a beginning of it and failed
abbrev pub Hands : Option (List ℕ) → Option (List ℕ) → Bool → List ℕ → Type 0
Hands e e' errors_failed text = (answer : Result (Unit {0}) Failed) × WritesAll e e' errors_failed answer text

-- something failed: the program ends with FAILED, and standard error was handed a text
abbrev pub IsReported : Option (List ℕ) → Option (List ℕ) → Bool → ℕ → Type 0
IsReported e e' errors_failed status = (status ≡ FAILED) × ((text : List ℕ) × Hands e e' errors_failed text)

-- an output, from o to o', that has not failed was written to only where the program ends with DONE
abbrev pub WritesOnlyWhenDone : Bool → Option (List ℕ) → Option (List ℕ) → ℕ → Type 0
WritesOnlyWhenDone failed o o' status = failed ≡ false → (status ≡ DONE → false ≡ true) → o' ≡ o

-- the arguments could not be read: the program ends with USAGE; or it ends with FAILED, and standard error was handed the line
-- for want of memory
abbrev pub AreUnread : List ℕ → Option (List ℕ) → Option (List ℕ) → Bool → ℕ → Type 0
AreUnread memory_line e e' errors_failed status = (status ≡ USAGE) ⊎ ((status ≡ FAILED) × Hands e e' errors_failed memory_line)
