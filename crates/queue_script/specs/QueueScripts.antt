-- The transcript of a script on the lock queue (this project's profile).
use Rattle.std.specs.Prelude.{ℕ, ◌+◌, List, [], ◌∷◌, ◌++◌, Option, Some, None, Result, Ok, Err, if◌then◌else◌, codes}
use Rattle.std.specs.List.{flat_map}
use Rattle.std.specs.Str.Lines.{lines}
use Rattle.arrayvec.specs.ArrayVec.{ArrayVec}
use Rattle.lock_queue.specs.Calls.{outcome_of}
use Rattle.lock_queue.specs.Jobs.{is_waiting_job, released}
use Rattle.lock_queue.specs.Grants.{woken_by, woken_by_release}
use Rattle.lock_queue.specs.Queue.{granted}
use Rattle.lock_queue.specs.StatusWords.{status_of}
use Rattle.lock_queue.specs.declared.call.LockCall.{LockCall}
use Rattle.lock_queue.specs.declared.refusal.Refusal.{Refusal}
use Rattle.lock_queue.specs.declared.request.Request.{Request}
use Rattle.lock_queue.specs.declared.want.Want.{Want}
use Rattle.queue_script.specs.Commands.{OwnedCommand, nothing, call, status, free, show, waits, quit, command_of}
use Rattle.queue_script.specs.Printing.{code_line, grant_line, reply_line, status_line, request_line}
use Rattle.script_io.specs.Transcripts.{Transcript, after, closed, unless_ended}
use Rattle.word36.specs.declared.sizes.TheConstants.{MOST_REQUESTS}
use Rattle.queue_script.specs.WaitPairs.{waits_text}
use Rattle.script_io.specs.Endings.{script_fault}
use Rattle.script_io.specs.declared.endings.Ending.{Ending}
use Rattle.script_io.specs.declared.endings.Ending.TheVariants as ending

-- what a line does: the requests afterwards, what it writes, and how the script ends, if it ends there
pub record Effect : Type 0 where
  pub requests : List Request
  pub text : List ℕ
  pub ending : Option Ending

-- the script goes on
abbrev pub goes : List Request → List ℕ → Effect
goes requests text = record { requests = requests; text = text; ending = None }

-- ---- calls

-- a job's call on a queue of some size, unless it was refused before: its answer, and the grants that it causes
abbrev pub call_effect : ℕ → List Request → ℕ → Result LockCall Refusal → Effect
call_effect size requests job (Err refusal) = goes requests (code_line refusal)
call_effect size requests job (Ok asked) =
    goes (outcome_of size requests job asked).requests
    (reply_line (outcome_of size requests job asked).reply ++ flat_map grant_line (woken_by size requests job asked))

-- a job that waits does nothing
abbrev pub unless_busy : List Request → ℕ → Effect → Effect
unless_busy requests job e = if is_waiting_job requests job then goes requests (codes "BUSY\n") else e

-- all requests of a job leave
abbrev pub free_effect : List Request → ℕ → Effect
free_effect requests job =
    goes (released requests job) (codes "OK\n" ++ flat_map grant_line (woken_by_release requests job))

-- ---- STAT and SHOW

-- a line for the key of each want
abbrev pub statuses : List Request → ℕ → List Want → List ℕ
statuses requests job [] = []
statuses requests job (w ∷ more) = status_line (status_of requests w.key job) ++ statuses requests job more

abbrev pub status_text : List Request → ℕ → Result (ArrayVec Want) Refusal → List ℕ
status_text requests job (Ok wants) = statuses requests job wants.items
status_text requests job (Err refusal) = code_line refusal

-- the lines of the requests from position i on
abbrev pub shown_from : List Request → ℕ → List Request → List ℕ
shown_from requests i [] = []
shown_from requests i (r ∷ later) = request_line (granted requests i) r ++ shown_from requests (i + 1) later

abbrev pub show_text : List Request → List ℕ
show_text requests = shown_from requests 0 requests ++ codes "END\n"

-- ---- lines

-- what line n, which has this command, does on a queue of some size; a line that is not in the grammar ends the script
abbrev pub effect_of : ℕ → ℕ → List Request → Option OwnedCommand → Effect
effect_of size n requests None =
    record { requests = requests; text = (script_fault n).text; ending = Some (ending.Script n) }
effect_of size n requests (Some nothing) = goes requests []
effect_of size n requests (Some (call job c)) = unless_busy requests job (call_effect size requests job c)
effect_of size n requests (Some (status job wants)) = goes requests (status_text requests job wants)
effect_of size n requests (Some (free job)) = free_effect requests job
effect_of size n requests (Some show) = goes requests (show_text requests)
effect_of size n requests (Some waits) = goes requests (waits_text requests)
effect_of size n requests (Some quit) = record { requests = requests; text = []; ending = Some ending.Done }

-- the line's text, and then what follows, unless the script ends
abbrev pub continued : Effect → (List Request → Transcript Ending) → Transcript Ending
continued e rest = after e.text (unless_ended e.ending (rest e.requests))

-- the transcript of lines on a queue of some size, behind n lines that left these requests
abbrev pub transcript_of : ℕ → List Request → ℕ → List (List ℕ) → Transcript Ending
transcript_of size requests n [] = closed [] ending.Done
transcript_of size requests n (line ∷ more) =
    continued (effect_of size (n + 1) requests (command_of line)) (λ next. transcript_of size next (n + 1) more)

-- what a script writes on a queue of the largest size, which is empty at first, and how it ends
unfoldable pub transcript : List ℕ → Transcript Ending
transcript bytes = transcript_of MOST_REQUESTS [] 0 (lines bytes)
