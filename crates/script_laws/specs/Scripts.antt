-- What holds of the requests after every line of every script on the lock queue (this project's profile).
use Rattle.std.specs.Prelude.{◌≡◌, ◌+◌, ◌++◌, ℕ, Bool, true, false, List, [], ◌∷◌}
use Rattle.std.specs.Prelude.{length, Option, Some, None, Ok, Err, if◌then◌else◌, is_some}
use Rattle.lock_queue.specs.declared.key.Key.{Key}
use Rattle.lock_queue.specs.declared.request.Request.{Request}
use Rattle.lock_laws.specs.Circles.{NoPlainCircle}
use Rattle.lock_laws.specs.Owning.{owns, is_dequeue}
use Rattle.lock_laws.specs.Safe.{Safe}
use Rattle.script_io.specs.Transcripts.{after}
use Rattle.queue_script.specs.Commands.{OwnedCommand, nothing, call, status, free, show, waits, quit, command_of}
use Rattle.queue_script.specs.QueueScripts.{Effect, effect_of, transcript_of}

-- the effect of line n on these requests, in a queue of some size
abbrev pub effect_at : ℕ → ℕ → List Request → List ℕ → Effect
effect_at size n requests line = effect_of size n requests (command_of line)

-- the requests after some lines, where n lines came before them and left these; behind the script's end nothing is done
abbrev pub requests_after : ℕ → List Request → ℕ → List (List ℕ) → List Request
requests_after size requests n [] = requests
requests_after size requests n (line ∷ more) =
    if is_some (effect_at size (n + 1) requests line).ending
    then (effect_at size (n + 1) requests line).requests
    else requests_after size (effect_at size (n + 1) requests line).requests (n + 1) more

-- whether the script ends with one of the lines
abbrev pub ends_within : ℕ → List Request → ℕ → List (List ℕ) → Bool
ends_within size requests n [] = false
ends_within size requests n (line ∷ more) =
    if is_some (effect_at size (n + 1) requests line).ending
    then true
    else ends_within size (effect_at size (n + 1) requests line).requests (n + 1) more

-- if a script does not end with some lines, its transcript goes on with the requests after them
abbrev pub FollowsTranscript : Type 0
FollowsTranscript =
    (size : ℕ) (requests : List Request) (n : ℕ) (lines more : List (List ℕ)) → ends_within size requests n lines ≡ false
    → (text : List ℕ) × (transcript_of size requests n (lines ++ more)
    ≡ after text (transcript_of size (requests_after size requests n lines) (n + length lines) more))

-- after some lines on an empty queue of any size, whatever they are
abbrev pub ScriptsAreSafe : Type 0
ScriptsAreSafe = (size : ℕ) (lines : List (List ℕ)) → Safe size (requests_after size [] 0 lines)

abbrev pub ScriptsMakeNoPlainCircle : Type 0
ScriptsMakeNoPlainCircle = (size : ℕ) (lines : List (List ℕ)) → NoPlainCircle (requests_after size [] 0 lines)

-- whether a line makes a job give up what it owns: FREE of that job, or a DEQ of that job that is in the grammar
abbrev pub GivesUp : ℕ → Option OwnedCommand → Type 0
GivesUp job None = ⊥
GivesUp job (Some nothing) = ⊥
GivesUp job (Some (call caller (Ok c))) = (is_dequeue c ≡ true) × (caller ≡ job)
GivesUp job (Some (call caller (Err refusal))) = ⊥
GivesUp job (Some (status asker wants)) = ⊥
GivesUp job (Some (free other)) = other ≡ job
GivesUp job (Some show) = ⊥
GivesUp job (Some waits) = ⊥
GivesUp job (Some quit) = ⊥

-- where a job owns a key before a line and not after it, the line is that job's FREE or DEQ
abbrev pub LinesKeepOwners : Type 0
LinesKeepOwners =
    (size n : ℕ) (requests : List Request) (line : List ℕ) (job : ℕ) (key : Key) → owns requests job key ≡ true
    → owns (effect_at size n requests line).requests job key ≡ false → GivesUp job (command_of line)
