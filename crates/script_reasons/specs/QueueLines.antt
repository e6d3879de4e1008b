-- The explanations of the lines of a script of `lockmon queue` (this project's profile).
use Rattle.std.specs.Prelude.{ℕ, ◌+◌, List, [], ◌∷◌, Option, Some, None, Result, Ok, Err, option_map, if◌then◌else◌}
use Rattle.std.specs.Str.Lines.{lines}
use Rattle.arrayvec.specs.ArrayVec.{ArrayVec}
use Rattle.word36.specs.declared.sizes.TheConstants.{MOST_REQUESTS}
use Rattle.lock_queue.specs.declared.call.LockCall.{LockCall}
use Rattle.lock_queue.specs.declared.refusal.Refusal.{Refusal}
use Rattle.lock_queue.specs.declared.request.Request.{Request}
use Rattle.lock_queue.specs.declared.want.Want.{Want}
use Rattle.lock_queue.specs.Jobs.{is_waiting_job}
use Rattle.queue_script.specs.Commands.{OwnedCommand, call, status, waits, command_of}
use Rattle.queue_script.specs.QueueScripts.{effect_of}
use Rattle.script_io.specs.declared.endings.Ending.{Ending}
use Rattle.script_reasons.specs.declared.queue_lines.ExplainedLine.{ExplainedLine}
use Rattle.script_reasons.specs.Explanations.{CallExplanation, as_explanation, busy, judged, wrong}

-- a call that is judged behind the requests, or is wrong before that
abbrev pub call_explanation : List Request → ℕ → Result LockCall Refusal → Option CallExplanation
call_explanation requests job (Ok asked) = judged requests job asked
call_explanation requests job (Err refusal) = Some (wrong refusal)

abbrev pub status_explanation : Result (ArrayVec Want) Refusal → Option CallExplanation
status_explanation (Ok wants) = None
status_explanation (Err refusal) = Some (wrong refusal)

-- the explanation of a command behind some requests: that its job waits and makes no call; of its ENQ or DEQ; or of a STAT that
-- is wrong
abbrev pub explanation_of : List Request → Option OwnedCommand → Option CallExplanation
explanation_of requests (Some (call job c)) =
    if is_waiting_job requests job then Some (busy job) else call_explanation requests job c
explanation_of requests (Some (status job wants)) = status_explanation wants
explanation_of requests _ = None

-- what comes behind a line, unless the script ends there
abbrev pub unless_over : Option Ending → List (Option CallExplanation) → List (Option CallExplanation)
unless_over (Some e) later = []
unless_over None later = later

-- the explanation of each line, where n lines have left these requests: that of its command, behind the requests that
-- the lines before it have left
abbrev pub explanations_from : ℕ → List Request → List (List ℕ) → List (Option CallExplanation)
explanations_from n requests [] = []
explanations_from n requests (line ∷ more) =
    let e = effect_of MOST_REQUESTS (n + 1) requests (command_of line) in
    explanation_of requests (command_of line) ∷ unless_over e.ending (explanations_from (n + 1) e.requests more)

-- of each line of a script, up to its end, on a queue of the largest size, which is empty at first
abbrev pub line_explanations : List ℕ → List (Option CallExplanation)
line_explanations script = explanations_from 0 [] (lines script)

-- the explanation of a line that was done
abbrev pub explanation_in : ExplainedLine → Option CallExplanation
explanation_in line = option_map as_explanation line.explanation
