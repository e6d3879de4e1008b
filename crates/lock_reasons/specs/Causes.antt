-- Why a call is not done, or not granted, at once (this project's profile).
use Rattle.std.specs.Prelude.{ℕ, Bool, true, false, List, Option, Some, None, option_map}
use Rattle.lock_queue.specs.declared.call.LockCall.{LockCall}
use Rattle.lock_queue.specs.declared.call.LockCall.TheVariants.{Enqueue}
use Rattle.lock_queue.specs.declared.call.LockReply.{LockReply}
use Rattle.lock_queue.specs.declared.call.LockReply.TheVariants.{Granted, Queued, Done, Refused}
use Rattle.lock_queue.specs.declared.request.Request.{Request}
use Rattle.lock_queue.specs.declared.want.Want.{Want}
use Rattle.lock_reasons.specs.declared.causes.Cause.{Cause}
use Rattle.lock_reasons.specs.declared.causes.Cause.TheVariants as told
use Rattle.lock_reasons.specs.declared.meetings.Present.{Present}
use Rattle.lock_reasons.specs.declared.reasons.Reason.{Reason}
use Rattle.lock_reasons.specs.declared.reasons.Reason.TheVariants.{NotGranted}
use Rattle.lock_reasons.specs.Reasons.{first_unfit, reason_of}
use Rattle.lock_reasons.specs.Ways.{way_of}

-- it is refused for a reason; or a want of it does not fit, and these wants stand in its way
pub data CallCause : Type 0 where
  refused : Reason → CallCause
  in_the_way : Want → List Present → CallCause

abbrev pub as_cause : Cause → CallCause
as_cause (told.Refused reason) = refused reason
as_cause (told.InTheWay w way) = in_the_way w way.items

-- whether an answer is that the call is done, or granted
abbrev pub is_done : LockReply → Bool
is_done Granted = true
is_done Done = true
is_done Queued = false
is_done (Refused r) = false

-- the first want of a request that does not fit behind the requests
abbrev pub unfit_in : List Request → LockCall → Option Want
unfit_in requests (Enqueue asking wants) = first_unfit requests wants.items
unfit_in requests _ = None

-- a want that does not fit, and who stands in its way
abbrev pub unfit_cause : List Request → Want → CallCause
unfit_cause requests w = in_the_way w (way_of requests w)

-- where the call is refused since a want does not fit, that is the cause; where it is refused for another reason, that is;
-- and where it is not refused, a want of it may not fit, and its job waits
abbrev pub cause_for : List Request → LockCall → Option Reason → Option CallCause
cause_for requests call (Some (NotGranted w)) = Some (unfit_cause requests w)
cause_for requests call (Some reason) = Some (refused reason)
cause_for requests call None = option_map (unfit_cause requests) (unfit_in requests call)

abbrev pub cause_of : ℕ → List Request → ℕ → LockCall → Option CallCause
cause_of size requests job call = cause_for requests call (reason_of size requests job call)
