-- What a port does with the answers of its host (this project's profile).
use Rattle.std.specs.Prelude.{◌≡◌, ℕ, zero, suc, ◌+◌, ◌<◌, ◌⊎◌, List, Result, Ok, Err, IsErr, MatchResult}
use Rattle.script_io.specs.declared.host_fault.HostFault.{HostFault}
use Rattle.script_io.specs.declared.host_fault.HostFault.TheVariants.{Interrupted}
use Rattle.script_io.specs.declared.ports.Failed.{Failed}

-- so many steps lead from one host to another
abbrev pub Leads : {H : Type 0} → (H → H → Type 0) → ℕ → H → H → Type 0
Leads step zero h h' = h ≡ h'
Leads {H} step (suc n) h h'' = (h' : H) × Leads step n h h' × step h' h''

-- a read that was interrupted, whatever it left in the piece
abbrev pub ReadIsInterrupted : {H : Type 0} → (H → Result ℕ HostFault → List ℕ → H → Type 0) → H → H → Type 0
ReadIsInterrupted answers h h' = (piece : List ℕ) × answers h (Err Interrupted) piece h'

-- a write of a piece that was interrupted
abbrev pub WriteIsInterrupted : {H : Type 0}
    → (H → List ℕ → Result ℕ HostFault → H → Type 0) → List ℕ → H → H → Type 0
WriteIsInterrupted answers piece h h' = answers h piece (Err Interrupted) h'

-- a port reads from a host, again after each interruption, each time with one try fewer; this is the host's last answer, which
-- is an interruption only if no try is left
pub record ReadsAgain {H : Type 0} (answers : H → Result ℕ HostFault → List ℕ → H → Type 0) (h h' : H) (tries tries' : ℕ)
    (answer : Result ℕ HostFault) (piece : List ℕ) : Type 0 where
  pub interruptions : ℕ
  pub last : H
  pub interrupted : Leads (ReadIsInterrupted answers) interruptions h last
  pub answered : answers last answer piece h'
  pub tried : tries ≡ tries' + (interruptions + 1)
  pub retried : answer ≡ Err Interrupted → tries' ≡ 0

-- a read of a port returns the host's last answer
abbrev pub AsksForBytes : {H : Type 0}
    → (H → Result ℕ HostFault → List ℕ → H → Type 0) → H → H → ℕ → ℕ → Result ℕ Failed → List ℕ → Type 0
AsksForBytes answers h h' tries tries' result piece =
    (answer : Result ℕ HostFault) × ReadsAgain answers h h' tries tries' answer piece
    × MatchResult result (λ n. answer ≡ Ok n) (λ _. IsErr answer)

-- a port hands a host the whole piece, again after each interruption, at most so many times; this is the host's last answer,
-- which is an interruption only if no try is left
pub record WritesAgain {H : Type 0} (answers : H → List ℕ → Result ℕ HostFault → H → Type 0) (h h' : H) (tries : ℕ)
    (answer : Result ℕ HostFault) (piece : List ℕ) : Type 0 where
  pub interruptions : ℕ
  pub last : H
  pub interrupted : Leads (WriteIsInterrupted answers piece) interruptions h last
  pub answered : answers last piece answer h'
  pub tried : interruptions < tries
  pub retried : answer ≡ Err Interrupted → interruptions + 1 ≡ tries

-- a write to a port returns the host's last answer, but a write of no byte is a failure
abbrev pub AsksToTake : {H : Type 0}
    → (H → List ℕ → Result ℕ HostFault → H → Type 0) → H → H → ℕ → Result ℕ Failed → List ℕ → Type 0
AsksToTake answers h h' tries result piece =
    (answer : Result ℕ HostFault) × WritesAgain answers h h' tries answer piece
    × MatchResult result (λ n. answer ≡ Ok n) (λ _. (answer ≡ Ok 0) ⊎ IsErr answer)
