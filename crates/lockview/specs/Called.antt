-- Why a lock call of a program is refused, or waits, by what a fact tells of it (TOPS-10 Monitor Calls Manual, in this project's
-- profile).
use Rattle.std.specs.Prelude.{ℕ, ◌-◌, ◌==◌, Bool, true, false, if◌then◌else◌, List, length, take, min, Option, Some, None, Result, Ok, Err}
use Rattle.std.specs.Option.{option_map}
use Rattle.word36.specs.Words.{left_half, right_half}
use Rattle.call_block.specs.declared.block.Block.{Block}
use Rattle.lock_queue.specs.Queue.{requests_of}
use Rattle.lock_queue.specs.declared.call.LockCall.{LockCall}
use Rattle.lock_queue.specs.declared.call.LockCall.TheVariants.{DequeueAll, DequeueId}
use Rattle.lock_queue.specs.declared.call.LockReply.{LockReply}
use Rattle.lock_queue.specs.declared.call.LockReply.TheVariants as reply
use Rattle.lock_queue.specs.declared.refusal.Refusal.{Refusal}
use Rattle.lock_queue.specs.declared.refusal.Refusal.TheVariants as refusal
use Rattle.lock_queue.specs.declared.request.EnqueueKind.TheVariants.{Blocking, AtOnce, Interrupt}
use Rattle.lock_queue.specs.declared.request.Request.{Request}
use Rattle.lock_reasons.specs.Causes.{refused}
use Rattle.lock_reasons.specs.declared.reasons.Reason.TheVariants.{NoVector, OverQuota}
use Rattle.script_reasons.specs.Explanations.{CallExplanation, as_explanation, by_queue, judged, wrong}
use Rattle.uuo_calls.specs.Asked.{ReadBlock}
use Rattle.uuo_calls.specs.LockRows.{changing, entering, naming}
use Rattle.uuo_calls.specs.declared.asked.Asked.{Asked}
use Rattle.uuo_calls.specs.declared.asked.LockService.{LockService}
use Rattle.uuo_calls.specs.declared.asked.LockService.TheVariants.{Enq, Deq, Enqc}
use Rattle.run_events.specs.declared.facts.Called.{Called}
use Rattle.lockview.specs.declared.called.ExplainedCall.{ExplainedCall}
use Rattle.lockview.specs.declared.called.TheConstants.{MOST_QUOTA}

-- the call on the queue that a lock call with a block asks for: as of a job that has a vector, and that may have as many requests
-- as there can be
abbrev pub call_with : LockService → ℕ → Result Block Refusal → Result LockCall Refusal
call_with Enq function block =
    if function == 0 then entering Blocking true MOST_QUOTA block else
    if function == 1 then entering AtOnce true MOST_QUOTA block else
    if function == 2 then entering Interrupt true MOST_QUOTA block else
    changing block
call_with Deq function block = naming block
call_with Enqc function block = Err refusal.NoFunction

-- and that of one without
abbrev pub call_without : LockService → ℕ → Result LockCall Refusal
call_without Deq w =
    if left_half w == 1 then Ok DequeueAll else
    if left_half w == 2 then Ok (DequeueId (right_half w)) else
    Err refusal.NoFunction
call_without Enq w = Err refusal.NoFunction
call_without Enqc w = Err refusal.NoFunction

abbrev pub call_told : Asked → ReadBlock → Result LockCall Refusal
call_told asked (Some block) = call_with asked.service (left_half asked.word) block
call_told asked None = call_without asked.service asked.word

-- whether the call's own request is the last of those that it left: if it waits, and if an interrupt is to notify the job of its grant
abbrev pub stays : Option Refusal → ℕ → Bool
stays None function = true
stays (Some refusal.NotGranted) function = function == 2
stays (Some _) function = false

-- the requests before it
abbrev pub before_call : Bool → List Request → List Request
before_call own requests = if own then take (length requests - 1) requests else requests

-- a number of requests as a quota
abbrev pub quota_at : ℕ → ℕ
quota_at count = min count MOST_QUOTA

-- the job has no vector; it may have no more requests than it has; else the call's own cause
abbrev pub cause_told : List Request → ℕ → LockCall → Option Refusal → Option CallExplanation
cause_told requests job call (Some refusal.NoVector) = Some (by_queue job (refused NoVector))
cause_told requests job call (Some refusal.OverQuota) =
    Some (by_queue job (refused (OverQuota (quota_at (length (requests_of requests job))))))
cause_told requests job call _ = judged requests job call

-- why a job's call was refused for this reason, or waits, after these requests
abbrev pub explanation_told : List Request → ℕ → Option Refusal → Result LockCall Refusal → Option CallExplanation
explanation_told requests job why (Ok call) = cause_told requests job call why
explanation_told requests job why (Err refusal) = Some (wrong refusal)

-- a lock call that is refused or waits, and why
pub record CallExplained : Type 0 where
  pub job : ℕ
  pub asked : Asked
  pub refusal : Option Refusal
  pub explanation : CallExplanation

abbrev pub as_explained : ExplainedCall → CallExplained
as_explained made = record {
  job = made.job;
  asked = made.asked;
  refusal = made.refusal;
  explanation = as_explanation made.explanation;
}

abbrev pub explained_as : Called → Option Refusal → CallExplanation → CallExplained
explained_as c why e = record { job = c.job; asked = c.asked; refusal = why; explanation = e }

-- by what it asks
abbrev pub explained_by_call : List Request → Called → Option Refusal → Option CallExplained
explained_by_call requests c why =
    option_map (explained_as c why)
    (explanation_told (before_call (stays why (left_half c.asked.word)) requests) c.job why (call_told c.asked c.block))

-- by which service it is explained: ENQC. asks for no lock
abbrev pub explained_by : LockService → List Request → Called → Option Refusal → Option CallExplained
explained_by Enqc requests c why = None
explained_by _ requests c why = explained_by_call requests c why

abbrev pub explained_if : LockReply → List Request → Called → Option CallExplained
explained_if reply.Queued requests c = explained_by c.asked.service requests c None
explained_if (reply.Refused why) requests c = explained_by c.asked.service requests c (Some why)
explained_if _ requests c = None

-- why a call of ENQ. or DEQ. is refused or waits, if it is or does, by the requests that it left
abbrev pub explained_call : List Request → Called → Option CallExplained
explained_call requests c = explained_if c.reply requests c
