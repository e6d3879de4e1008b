-- Why a job's call is not done, or not granted, at once (this project's profile).
use Rattle.std.specs.Prelude.{ℕ, List, Option, option_map}
use Rattle.word36.specs.declared.sizes.TheConstants.{MOST_REQUESTS}
use Rattle.lock_queue.specs.declared.call.LockCall.{LockCall}
use Rattle.lock_queue.specs.declared.refusal.Refusal.{Refusal}
use Rattle.lock_queue.specs.declared.request.Request.{Request}
use Rattle.lock_reasons.specs.Causes.{CallCause, as_cause, cause_of}
use Rattle.script_reasons.specs.declared.explanations.Explanation.{Explanation}
use Rattle.script_reasons.specs.declared.explanations.Explanation.TheVariants as variant

-- the job waits, and makes no call; the call is wrong in itself; or the queue has a cause not to do it, or not to grant it
pub data CallExplanation : Type 0 where
  busy : ℕ → CallExplanation
  wrong : Refusal → CallExplanation
  by_queue : ℕ → CallCause → CallExplanation

abbrev pub as_explanation : Explanation → CallExplanation
as_explanation (variant.Busy job) = busy job
as_explanation (variant.Wrong refusal) = wrong refusal
as_explanation (variant.Judged job cause) = by_queue job (as_cause cause)

-- the explanation of a job's call behind some requests, in a queue of the largest size
abbrev pub judged : List Request → ℕ → LockCall → Option CallExplanation
judged requests job call = option_map (by_queue job) (cause_of MOST_REQUESTS requests job call)
