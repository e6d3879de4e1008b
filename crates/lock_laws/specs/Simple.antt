-- The queue without groups and quotas, defined by itself: all who share agree, a change touches the bit for sharing
-- alone, and a job may have as many requests as there is room for. Where no want has a group and each quota is above the
-- size of the queue, the queue is this one (this project's profile).
use Rattle.std.specs.Prelude.{◌≡◌, ℕ, ◌+◌, ◌≤◌, Bool, true, false, not, ◌==◌, ◌&&◌}
use Rattle.std.specs.Prelude.{◌||◌, if◌then◌else◌, List, [], ◌∷◌, ◌++◌, length}
use Rattle.std.specs.Prelude.{map, Option, Some, None, Result, Ok, Err, take, slice_get, sum_by, nat_le, nat_lt}
use Rattle.std.specs.List.{list_all, list_any}
use Rattle.arrayvec.specs.ArrayVec.{ArrayVec}
use Rattle.lock_queue.specs.declared.call.Asking.{Asking}
use Rattle.lock_queue.specs.declared.call.LockCall.{LockCall}
use Rattle.lock_queue.specs.declared.call.LockCall.TheVariants.{Enqueue, Modify, DequeueNamed, DequeueAll, DequeueId}
use Rattle.lock_queue.specs.declared.call.LockReply.{LockReply}
use Rattle.lock_queue.specs.declared.call.LockReply.TheVariants.{Granted, Done}
use Rattle.lock_queue.specs.declared.key.Key.{Key}
use Rattle.lock_queue.specs.declared.refusal.Refusal.{Refusal}
use Rattle.lock_queue.specs.declared.refusal.Refusal.TheVariants.{BadPool, LevelOrder, QueueFull, NoVector, WouldLose}
use Rattle.lock_queue.specs.declared.request.Request.{Request}
use Rattle.lock_queue.specs.declared.want.Want.{Want}
use Rattle.lock_queue.specs.Calls.{requests_after, replies_to}
use Rattle.lock_queue.specs.Changes.{modify_fault}
use Rattle.lock_queue.specs.Dequeues.{with_wants, dequeue_named, dequeue_all, dequeue_id}
use Rattle.lock_queue.specs.Enqueues.{enqueue_fault, some_too_low, not_granted, with_arrival}
use Rattle.lock_queue.specs.Jobs.{is_blocking, is_interrupt, waits_for}
use Rattle.lock_queue.specs.Keys.{same_key}
use Rattle.lock_queue.specs.Outcomes.{Outcome, outcome, unless_refused, refuse_if, or_else, first_refusal}
use Rattle.lock_queue.specs.Pools.{PoolShare, share_of, is_right_share}
use Rattle.lock_queue.specs.Queue.{all_wants, amount_of, chosen, is_pooled, names, owners}
use Rattle.lock_queue.specs.Queue.{requests_of, some_behind, waiters, wants_at, wants_of}
use Rattle.lock_queue.specs.Uses.{pool_on}

-- which wants fit and which requests are granted
abbrev pub simply_agree : Want → Want → Bool
simply_agree v w = v.shared && w.shared

abbrev pub simply_fits_beside : List Want → Want → Option PoolShare → Bool
simply_fits_beside earlier w None = list_all (λ v. simply_agree v w) earlier
simply_fits_beside earlier w (Some share) = nat_le (sum_by amount_of earlier + share.amount) share.size

abbrev pub simply_fits : List Request → Want → Bool
simply_fits earlier w = simply_fits_beside (wants_at earlier w.key) w w.pool

abbrev pub simply_granted_behind : List Request → Request → Bool
simply_granted_behind earlier r = list_all (simply_fits earlier) r.wants.items

abbrev pub is_simply_granted : List Request → Option Request → Bool
is_simply_granted earlier (Some r) = simply_granted_behind earlier r
is_simply_granted earlier None = false

abbrev pub simply_granted : List Request → ℕ → Bool
simply_granted requests i = is_simply_granted (take i requests) (slice_get requests i)

-- who owns a key, who waits for it, and who waits for whom
abbrev pub is_simple_owner : Key → List Request → Request → Bool
is_simple_owner key earlier r = names r.wants.items key && simply_granted_behind earlier r

abbrev pub is_simple_waiter : Key → List Request → Request → Bool
is_simple_waiter key earlier r = names r.wants.items key && not (simply_granted_behind earlier r)

abbrev pub is_simply_blocked : ℕ → List Request → Request → Bool
is_simply_blocked job earlier r = (r.job == job && is_blocking r.kind) && not (simply_granted_behind earlier r)

abbrev pub is_simply_in_the_way : Want → Want → Bool
is_simply_in_the_way v w = is_pooled v || not (simply_agree v w)

abbrev pub is_simply_kept_by : ℕ → List Request → Want → Bool
is_simply_kept_by job earlier w =
    not (simply_fits earlier w) && list_any (λ v. is_simply_in_the_way v w) (wants_at (requests_of earlier job) w.key)

abbrev pub is_simply_blocked_by : ℕ → ℕ → List Request → Request → Bool
is_simply_blocked_by job other earlier r =
    is_simply_blocked job earlier r && list_any (is_simply_kept_by other earlier) r.wants.items

-- a request that arrives
abbrev pub simple_refusal : ℕ → List Request → ℕ → Asking → List Want → Option Refusal
simple_refusal size requests job asking wants =
    or_else (first_refusal (enqueue_fault requests job) [] wants)
    (or_else (refuse_if (some_too_low (wants_of requests job) wants) LevelOrder)
    (or_else (refuse_if (is_interrupt asking.kind && not asking.armed) NoVector)
    (refuse_if (nat_le size (length requests)) QueueFull)))

abbrev pub simple_arrival : List Request → ℕ → Asking → ArrayVec Want → Outcome
simple_arrival requests job asking wants =
    if simply_granted (with_arrival requests job asking false wants) (length requests)
    then outcome (with_arrival requests job asking (is_interrupt asking.kind) wants) Granted
    else not_granted requests (with_arrival requests job asking false wants) asking.kind

-- wants that are made shared or exclusive
abbrev pub simply_changed_want : List Want → Want → Want
simply_changed_want [] w = w
simply_changed_want (c ∷ later) w = if same_key w.key c.key then record w { shared = c.shared } else simply_changed_want later w

abbrev pub simply_changed : ℕ → List Want → Request → Request
simply_changed job changes r =
    if r.job == job then with_wants r (map (simply_changed_want changes) r.wants.items) else r

abbrev pub with_simple_changes : List Request → ℕ → List Want → List Request
with_simple_changes requests job changes = map (simply_changed job changes) requests

abbrev pub some_simply_lost_behind : List Request → List Request → List Request → List Request → Bool
some_simply_lost_behind before after [] later = false
some_simply_lost_behind before after (r ∷ rest) [] = false
some_simply_lost_behind before after (r ∷ rest) (s ∷ later) =
    (simply_granted_behind before r && not (simply_granted_behind after s))
    || some_simply_lost_behind (before ++ r ∷ []) (after ++ s ∷ []) rest later

abbrev pub simple_modify : List Request → ℕ → List Want → Outcome
simple_modify requests job changes =
    unless_refused requests
    (or_else (first_refusal (modify_fault requests job) [] changes)
    (refuse_if (some_simply_lost_behind [] [] requests (with_simple_changes requests job changes)) WouldLose))
    (outcome (with_simple_changes requests job changes) Done)

-- the outcome of a call, and the lists after several and the answers to them; wants are given up as in the queue with
-- groups
abbrev pub simple_outcome : ℕ → List Request → ℕ → LockCall → Outcome
simple_outcome size requests job (Enqueue asking wants) =
    unless_refused requests (simple_refusal size requests job asking wants.items) (simple_arrival requests job asking wants)
simple_outcome size requests job (Modify wants) = simple_modify requests job wants.items
simple_outcome size requests job (DequeueNamed wants) = dequeue_named requests job wants.items
simple_outcome size requests job DequeueAll = dequeue_all requests job
simple_outcome size requests job (DequeueId id) = dequeue_id requests job id

abbrev pub simple_requests_after : ℕ → List Request → List (ℕ × LockCall) → List Request
simple_requests_after size requests [] = requests
simple_requests_after size requests (c ∷ later) = simple_requests_after size (simple_outcome size requests c.0 c.1).requests later

abbrev pub simple_replies_to : ℕ → List Request → List (ℕ × LockCall) → List LockReply
simple_replies_to size requests [] = []
simple_replies_to size requests (c ∷ later) =
    (simple_outcome size requests c.0 c.1).reply ∷ simple_replies_to size (simple_outcome size requests c.0 c.1).requests later

-- the pool of a lock as a call spells it: size 0 and amount 0 are none; else the amount is from 1 to the size, a number of
-- 18 bits, and a pool is not shared
abbrev pub simple_pool_on : Bool → ℕ → ℕ → Result (Option PoolShare) Refusal
simple_pool_on shared size amount =
    if size == 0 && amount == 0 then Ok None
    else (if not shared && is_right_share (share_of size amount) then Ok (Some (share_of size amount)) else Err BadPool)

-- no want has a group
abbrev pub has_no_group : Want → Bool
has_no_group w = w.group == 0

abbrev pub have_no_groups : List Request → Bool
have_no_groups requests = list_all has_no_group (all_wants requests)

-- a call that asks for no group, with a quota above the size of the queue
abbrev pub is_simple_call : ℕ → LockCall → Bool
is_simple_call size (Enqueue asking wants) = list_all has_no_group wants.items && nat_lt size asking.quota
is_simple_call size (Modify wants) = true
is_simple_call size (DequeueNamed wants) = true
is_simple_call size DequeueAll = true
is_simple_call size (DequeueId id) = true

-- requests without groups have the owners, the waiters and the waits of the simple queue
pub record StandSimply (requests : List Request) : Type 0 where
  pub owned : (key : Key) → owners requests key ≡ chosen (is_simple_owner key) requests
  pub awaited : (key : Key) → waiters requests key ≡ chosen (is_simple_waiter key) requests
  pub waits : (job other : ℕ) → waits_for requests job other ≡ some_behind (is_simply_blocked_by job other) [] requests

abbrev pub RequestsAreSimple : Type 0
RequestsAreSimple = (requests : List Request) → have_no_groups requests ≡ true → StandSimply requests

-- and simple calls do with them what they do in the simple queue, one after the other
pub record RunsSimply (size : ℕ) (requests : List Request) (calls : List (ℕ × LockCall)) : Type 0 where
  pub left : requests_after size requests calls ≡ simple_requests_after size requests calls
  pub replies : replies_to size requests calls ≡ simple_replies_to size requests calls
  pub groups : have_no_groups (requests_after size requests calls) ≡ true

abbrev pub CallsAreSimple : Type 0
CallsAreSimple =
    (size : ℕ) (requests : List Request) (calls : List (ℕ × LockCall)) → length requests ≤ size
    → have_no_groups requests ≡ true → list_all (λ c. is_simple_call size c.1) calls ≡ true
    → RunsSimply size requests calls

-- and a lock that is spelled without a group has the pool that it has there
abbrev pub SpellingIsSimple : Type 0
SpellingIsSimple = (shared : Bool) (size amount : ℕ) → pool_on shared 0 size amount ≡ simple_pool_on shared size amount
