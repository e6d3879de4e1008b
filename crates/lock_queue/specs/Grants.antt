-- What a call leaves of each request, and which requests it grants (ENQ/DEQ of the TOPS-10 Monitor Calls Manual, in this
-- project's profile).
use Rattle.std.specs.Prelude.{ℕ, Bool, true, false, not, ◌&&◌, if◌then◌else◌, List, [], map, Option, Some, None, filter_map}
use Rattle.lock_queue.specs.declared.call.LockCall.{LockCall}
use Rattle.lock_queue.specs.declared.call.LockCall.TheVariants.{Enqueue, Modify, DequeueNamed, DequeueAll, DequeueId}
use Rattle.lock_queue.specs.declared.call.LockReply.{LockReply}
use Rattle.lock_queue.specs.declared.call.LockReply.TheVariants.{Granted, Queued, Done, Refused}
use Rattle.lock_queue.specs.declared.grant.Grant.{Grant}
use Rattle.lock_queue.specs.declared.request.EnqueueKind.{EnqueueKind}
use Rattle.lock_queue.specs.declared.request.EnqueueKind.TheVariants.{Blocking, AtOnce, Interrupt}
use Rattle.lock_queue.specs.declared.request.Request.{Request}
use Rattle.lock_queue.specs.Calls.{outcome_of}
use Rattle.lock_queue.specs.Changes.{changed}
use Rattle.lock_queue.specs.Dequeues.{has_wants, without_keys_of, is_of_job, has_id}
use Rattle.lock_queue.specs.Jobs.{is_among, is_not_blocked_where, withdrawn_where}
use Rattle.lock_queue.specs.Queue.{granted_behind, is_granted, chosen}

-- a request, where it stays
abbrev pub staying_if : Bool → Request → Option Request
staying_if stays r = if stays then Some r else None

-- what a job's call, where it is not refused, leaves of a request that is present: the request, perhaps with other wants,
-- or nothing
abbrev pub left_of : ℕ → LockCall → Request → Option Request
left_of job (Enqueue asking wants) r = Some r
left_of job (Modify changes) r = Some (changed job changes.items r)
left_of job (DequeueNamed named) r =
    staying_if (has_wants (without_keys_of job named.items r)) (without_keys_of job named.items r)
left_of job DequeueAll r = staying_if (not (is_of_job job r)) r
left_of job (DequeueId id) r = staying_if (not (has_id job id r)) r

-- a job is notified of the grant of a request that waits, or that interrupts
abbrev pub is_notified_of : EnqueueKind → Bool
is_notified_of Blocking = true
is_notified_of AtOnce = false
is_notified_of Interrupt = true

abbrev pub grant_of : Request → Grant
grant_of r = record { job = r.job; id = r.id }

-- whether a job is notified of a new grant of this request: it is not granted, and what is left of it is granted behind
-- what is left of the requests before it
abbrev pub is_woken : (Request → Option Request) → List Request → Request → Bool
is_woken left earlier r =
    (is_notified_of r.kind && not (granted_behind earlier r)) && is_granted (filter_map left earlier) (left r)

-- the grants that are made where this is left of each request, in order of arrival
abbrev pub woken : (Request → Option Request) → List Request → List Grant
woken left requests = map grant_of (chosen (is_woken left) requests)

-- a refused call makes no grants
abbrev pub unless_refused_grants : LockReply → List Grant → List Grant
unless_refused_grants Granted grants = grants
unless_refused_grants Queued grants = grants
unless_refused_grants Done grants = grants
unless_refused_grants (Refused refusal) grants = []

-- the grants that a job's call makes of requests that were present before it
abbrev pub woken_by : ℕ → List Request → ℕ → LockCall → List Grant
woken_by size requests job call =
    unless_refused_grants (outcome_of size requests job call).reply (woken (left_of job call) requests)

-- the grants that are made when all requests of a job leave
abbrev pub woken_by_release : List Request → ℕ → List Grant
woken_by_release requests job = woken (left_of job DequeueAll) requests

-- whether a job is notified of a new grant of this request where the requests by which some jobs wait leave, all judged by
-- the list before any of them left: it is not granted, it stays, and it is granted behind those before it that stay
abbrev pub is_woken_without : (ℕ → Bool) → List Request → Request → Bool
is_woken_without waiters earlier r =
    (is_notified_of r.kind && not (granted_behind earlier r))
    && is_granted (withdrawn_where earlier waiters) (staying_if (is_not_blocked_where waiters earlier r) r)

-- the grants that are made when the requests by which the jobs of a set wait leave
abbrev pub woken_by_withdrawal : List Request → ℕ → List Grant
woken_by_withdrawal requests jobs = map grant_of (chosen (is_woken_without (is_among jobs)) requests)
