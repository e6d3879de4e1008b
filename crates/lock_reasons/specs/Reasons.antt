-- Why a call is refused: the first want at fault, and what it meets (ENQ/DEQ of the TOPS-10 Monitor Calls Manual, in
-- this project's profile).
use Rattle.std.specs.Prelude.{ℕ, Bool, not, ◌&&◌, ◌++◌, List, [], ◌∷◌, length, Option, Some, None, option_map, nat_le}
use Rattle.std.specs.Prelude.{if◌then◌else◌}
use Rattle.std.specs.List.{find, list_any}
use Rattle.lock_queue.specs.declared.call.Asking.{Asking}
use Rattle.lock_queue.specs.declared.call.LockCall.{LockCall}
use Rattle.lock_queue.specs.declared.call.LockCall.TheVariants.{Enqueue, Modify, DequeueNamed, DequeueAll, DequeueId}
use Rattle.lock_queue.specs.declared.call.LockReply.{LockReply}
use Rattle.lock_queue.specs.declared.call.LockReply.TheVariants as reply
use Rattle.lock_queue.specs.declared.refusal.Refusal.{Refusal}
use Rattle.lock_queue.specs.declared.refusal.Refusal.TheVariants as refusal
use Rattle.lock_queue.specs.declared.request.Request.{Request}
use Rattle.lock_queue.specs.declared.want.Want.{Want}
use Rattle.lock_queue.specs.Changes.{with_changes}
use Rattle.lock_queue.specs.Dequeues.{has_id, is_of_job}
use Rattle.lock_queue.specs.Jobs.{is_blocking, is_interrupt}
use Rattle.lock_queue.specs.Queue.{fits, granted_behind, names, requests_of, wants_of}
use Rattle.lock_reasons.specs.declared.meetings.Rule.{Rule}
use Rattle.lock_reasons.specs.declared.meetings.Rule.TheVariants.{Differs, Names, Reaches, Pools}
use Rattle.lock_reasons.specs.declared.reasons.Met.TheVariants.{Earlier, InQueue}
use Rattle.lock_reasons.specs.declared.reasons.Reason.{Reason}
use Rattle.lock_reasons.specs.declared.reasons.Reason.TheVariants.{Meets, NotPresent, NoRequest, NoRequestOf}
use Rattle.lock_reasons.specs.declared.reasons.Reason.TheVariants.{NoVector, OverQuota, QueueFull, NotGranted, WouldLose}
use Rattle.lock_reasons.specs.declared.faults.Check.{Check}
use Rattle.lock_reasons.specs.declared.faults.Check.TheVariants as check
use Rattle.lock_reasons.specs.Meetings.{first_present, meets}

-- ---- which refusal a reason is of

abbrev pub refusal_by : Rule → Refusal
refusal_by Differs = refusal.Differs
refusal_by Names = refusal.NamedAlready
refusal_by Reaches = refusal.LevelOrder
refusal_by Pools = refusal.BadPool

abbrev pub refusal_in : Reason → Refusal
refusal_in (Meets rule w met) = refusal_by rule
refusal_in (NotPresent w) = refusal.NotPresent
refusal_in NoRequest = refusal.NotPresent
refusal_in (NoRequestOf id) = refusal.NotPresent
refusal_in NoVector = refusal.NoVector
refusal_in (OverQuota quota) = refusal.OverQuota
refusal_in (QueueFull size) = refusal.QueueFull
refusal_in (NotGranted w) = refusal.NotGranted
refusal_in (WouldLose job id) = refusal.WouldLose

-- the refusal that an answer tells, if it is one
abbrev pub refusal_of : LockReply → Option Refusal
refusal_of reply.Granted = None
refusal_of reply.Queued = None
refusal_of reply.Done = None
refusal_of (reply.Refused r) = Some r

-- ---- wants at fault

-- the first of two reasons, if any
abbrev pub or_reason : Option Reason → Option Reason → Option Reason
or_reason (Some reason) later = Some reason
or_reason None later = later

abbrev pub reason_if : Bool → Reason → Option Reason
reason_if cause reason = if cause then Some reason else None

-- an earlier want of the call that a want meets, and a want in the queue
abbrev pub by_earlier : Rule → Want → List Want → Option Reason
by_earlier rule w earlier = option_map (λ v. Meets rule w (Earlier v)) (find (meets rule w) earlier)

abbrev pub by_present : Rule → Want → List Request → Option Reason
by_present rule w requests = option_map (λ p. Meets rule w (InQueue p)) (first_present rule w requests)

-- why a want that is asked for is at fault: one in the queue differs from it, or the key is named already by the call or
-- by the job's requests
abbrev pub request_fault : List Request → ℕ → List Want → Want → Option Reason
request_fault requests job earlier w =
    or_reason (by_present Differs w requests)
    (or_reason (by_earlier Names w earlier) (by_present Names w (requests_of requests job)))

-- a want of the job, or of the call before it, is as high or higher
abbrev pub level_fault : List Request → ℕ → List Want → Want → Option Reason
level_fault requests job earlier w =
    if w.bypass then None
    else or_reason (by_present Reaches w (requests_of requests job)) (by_earlier Reaches w earlier)

-- a want that is named is named already by the call, or the job has none of its key
abbrev pub release_fault : List Request → ℕ → List Want → Want → Option Reason
release_fault requests job earlier w =
    or_reason (by_earlier Names w earlier) (reason_if (not (names (wants_of requests job) w.key)) (NotPresent w))

-- the same, or the job's want is of a pool and would be shared
abbrev pub change_fault : List Request → ℕ → List Want → Want → Option Reason
change_fault requests job earlier w =
    or_reason (release_fault requests job earlier w)
    (if w.shared then by_present Pools w (requests_of requests job) else None)

abbrev pub fault : Check → List Request → ℕ → List Want → Want → Option Reason
fault check.Request requests job earlier w = request_fault requests job earlier w
fault check.Levels requests job earlier w = level_fault requests job earlier w
fault check.Release requests job earlier w = release_fault requests job earlier w
fault check.Change requests job earlier w = change_fault requests job earlier w

-- the first want of a call that is at fault, each judged after the call's wants before it
abbrev pub first_fault : (List Want → Want → Option Reason) → List Want → List Want → Option Reason
first_fault test earlier [] = None
first_fault test earlier (w ∷ later) = or_reason (test earlier w) (first_fault test (earlier ++ w ∷ []) later)

-- ---- calls

-- the first want that does not fit behind the requests
abbrev pub first_unfit : List Request → List Want → Option Want
first_unfit requests wants = find (λ w. not (fits requests w)) wants

-- why a request is refused, as it is judged: lock by lock; its levels; for want of a vector, of quota, and of room; and
-- where it does not wait and is not granted at once
abbrev pub enqueue_reason : ℕ → List Request → ℕ → Asking → List Want → Option Reason
enqueue_reason size requests job asking wants =
    or_reason (first_fault (fault check.Request requests job) [] wants)
    (or_reason (first_fault (fault check.Levels requests job) [] wants)
    (or_reason (reason_if (is_interrupt asking.kind && not asking.armed) NoVector)
    (or_reason (reason_if (nat_le asking.quota (length (requests_of requests job))) (OverQuota asking.quota))
    (or_reason (reason_if (nat_le size (length requests)) (QueueFull size))
    (if is_blocking asking.kind then None else option_map NotGranted (first_unfit requests wants))))))

-- two lists side by side, the second with the new forms of the first's requests: the first that loses its grant
abbrev pub lost_behind : List Request → List Request → List Request → List Request → Option Reason
lost_behind before after [] later = None
lost_behind before after (r ∷ rest) [] = None
lost_behind before after (r ∷ rest) (s ∷ later) =
    if granted_behind before r && not (granted_behind after s) then Some (WouldLose r.job r.id)
    else lost_behind (before ++ r ∷ []) (after ++ s ∷ []) rest later

-- why a change is refused: lock by lock; then for the grant that it would take away
abbrev pub modify_reason : List Request → ℕ → List Want → Option Reason
modify_reason requests job changes =
    or_reason (first_fault (fault check.Change requests job) [] changes)
    (lost_behind [] [] requests (with_changes requests job changes))

abbrev pub reason_of : ℕ → List Request → ℕ → LockCall → Option Reason
reason_of size requests job (Enqueue asking wants) = enqueue_reason size requests job asking wants.items
reason_of size requests job (Modify wants) = modify_reason requests job wants.items
reason_of size requests job (DequeueNamed wants) = first_fault (fault check.Release requests job) [] wants.items
reason_of size requests job DequeueAll = reason_if (not (list_any (is_of_job job) requests)) NoRequest
reason_of size requests job (DequeueId id) = reason_if (not (list_any (has_id job id) requests)) (NoRequestOf id)
