-- A request that arrives: ENQ. functions 0 to 2 (ENQ/DEQ of the TOPS-10 Monitor Calls Manual, in this project's
-- profile).
use Rattle.std.specs.Prelude.{ℕ, Bool, true, false, not, ◌==◌, ◌&&◌, ◌||◌, if◌then◌else◌}
use Rattle.std.specs.Prelude.{List, [], ◌∷◌, ◌++◌, length, Option, Some, None, nat_le}
use Rattle.std.specs.List.{list_all, list_any}
use Rattle.arrayvec.specs.ArrayVec.{ArrayVec}
use Rattle.lock_queue.specs.declared.call.Asking.{Asking}
use Rattle.lock_queue.specs.declared.call.LockReply.TheVariants.{Granted, Queued, Refused}
use Rattle.lock_queue.specs.declared.refusal.Refusal.{Refusal}
use Rattle.lock_queue.specs.declared.refusal.Refusal.TheVariants.{NotGranted, Differs, LevelOrder, NamedAlready}
use Rattle.lock_queue.specs.declared.refusal.Refusal.TheVariants.{QueueFull, NoVector, OverQuota}
use Rattle.lock_queue.specs.declared.request.EnqueueKind.{EnqueueKind}
use Rattle.lock_queue.specs.declared.request.EnqueueKind.TheVariants.{Blocking, AtOnce, Interrupt}
use Rattle.lock_queue.specs.declared.request.Request.{Request}
use Rattle.lock_queue.specs.declared.want.Want.{Want}
use Rattle.lock_queue.specs.Jobs.{is_interrupt}
use Rattle.lock_queue.specs.Outcomes.{Outcome, outcome, unless_refused, refuse_if, or_else, first_refusal}
use Rattle.lock_queue.specs.Pools.{PoolShare}
use Rattle.lock_queue.specs.Queue.{names, wants_at, requests_of, wants_of, granted}

-- both are pools of one size, or neither is a pool
abbrev pub same_pool_size : Option PoolShare → Option PoolShare → Bool
same_pool_size (Some a) (Some b) = a.size == b.size
same_pool_size None None = true
same_pool_size (Some a) None = false
same_pool_size None (Some b) = false

-- wants of one key are alike where they have one level, and one pool size or no pool
abbrev pub are_alike : Want → Want → Bool
are_alike v w = v.level == w.level && same_pool_size v.pool w.pool

-- why a want is refused that comes after the call's earlier ones: a present want of its key differs from it, or the key
-- is named already by the call or by the job's requests
abbrev pub enqueue_fault : List Request → ℕ → List Want → Want → Option Refusal
enqueue_fault requests job earlier w =
    or_else (refuse_if (not (list_all (λ v. are_alike v w) (wants_at requests w.key))) Differs)
    (refuse_if (names earlier w.key || names (wants_of requests job) w.key) NamedAlready)

-- a want is too low where it does not bypass the rule of levels and its level is not above those of all wants before it
abbrev pub is_too_low : List Want → Want → Bool
is_too_low before w = not w.bypass && list_any (λ v. nat_le w.level v.level) before

-- whether one of the call's wants is too low behind the wants before it
abbrev pub some_too_low : List Want → List Want → Bool
some_too_low before [] = false
some_too_low before (w ∷ later) = is_too_low before w || some_too_low (before ++ w ∷ []) later

-- why a request is not taken in, if it is not: lock by lock; then its levels, behind all present wants of the job; then
-- for want of a vector for the interrupt; then where the job has as many requests as it may have; and for want of room in
-- a queue of this size
abbrev pub enqueue_refusal : ℕ → List Request → ℕ → Asking → List Want → Option Refusal
enqueue_refusal size requests job asking wants =
    or_else (first_refusal (enqueue_fault requests job) [] wants)
    (or_else (refuse_if (some_too_low (wants_of requests job) wants) LevelOrder)
    (or_else (refuse_if (is_interrupt asking.kind && not asking.armed) NoVector)
    (or_else (refuse_if (nat_le asking.quota (length (requests_of requests job))) OverQuota)
    (refuse_if (nat_le size (length requests)) QueueFull))))

abbrev pub request_of : ℕ → Asking → Bool → ArrayVec Want → Request
request_of job asking notified wants = record { job = job; id = asking.id; kind = asking.kind; notified = notified; wants = wants }

-- a request that arrives goes last
abbrev pub with_arrival : List Request → ℕ → Asking → Bool → ArrayVec Want → List Request
with_arrival requests job asking notified wants = requests ++ request_of job asking notified wants ∷ []

-- a request that is not granted at once, by its kind: it waits; it does not stay; it stays, to be granted later
abbrev pub not_granted : List Request → List Request → EnqueueKind → Outcome
not_granted requests with_it Blocking = outcome with_it Queued
not_granted requests with_it AtOnce = outcome requests (Refused NotGranted)
not_granted requests with_it Interrupt = outcome with_it (Refused NotGranted)

-- a request that is taken in: where it is granted at once, that is the answer, which also notifies the job: no interrupt
-- does so later
abbrev pub arrival : List Request → ℕ → Asking → ArrayVec Want → Outcome
arrival requests job asking wants =
    if granted (with_arrival requests job asking false wants) (length requests)
    then outcome (with_arrival requests job asking (is_interrupt asking.kind) wants) Granted
    else not_granted requests (with_arrival requests job asking false wants) asking.kind

-- functions 0 to 2
abbrev pub enqueue : ℕ → List Request → ℕ → Asking → ArrayVec Want → Outcome
enqueue size requests job asking wants =
    unless_refused requests (enqueue_refusal size requests job asking wants.items) (arrival requests job asking wants)
