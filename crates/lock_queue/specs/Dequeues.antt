-- Wants that are given up: DEQ. (ENQ/DEQ of the TOPS-10 Monitor Calls Manual, in this project's profile).
use Rattle.std.specs.Prelude.{ℕ, Bool, not, ◌==◌, ◌&&◌, if◌then◌else◌, List, [], length, map, Option, filter}
use Rattle.std.specs.List.{list_any}
use Rattle.lock_queue.specs.declared.call.LockReply.TheVariants.{Done, Refused}
use Rattle.lock_queue.specs.declared.refusal.Refusal.{Refusal}
use Rattle.lock_queue.specs.declared.refusal.Refusal.TheVariants.{NamedAlready, NotPresent}
use Rattle.lock_queue.specs.declared.request.Request.{Request}
use Rattle.lock_queue.specs.declared.want.Want.{Want}
use Rattle.lock_queue.specs.Outcomes.{Outcome, outcome, unless_refused, refuse_if, or_else, first_refusal}
use Rattle.lock_queue.specs.Queue.{names, wants_of}

-- why a want is refused: the key is named by an earlier one of the call, or the job has no want of it
abbrev pub dequeue_fault : List Request → ℕ → List Want → Want → Option Refusal
dequeue_fault requests job earlier w =
    or_else (refuse_if (names earlier w.key) NamedAlready)
    (refuse_if (not (names (wants_of requests job) w.key)) NotPresent)

abbrev pub has_wants : Request → Bool
has_wants r = not (length r.wants.items == 0)

-- a request with these wants in place of its own
abbrev pub with_wants : Request → List Want → Request
with_wants r wants = record r { wants = record { items = wants } }

-- a request without its wants of the named keys
abbrev pub without_keys : List Want → Request → Request
without_keys named r = with_wants r (filter (λ w. not (names named w.key)) r.wants.items)

-- the same for the job's requests alone
abbrev pub without_keys_of : ℕ → List Want → Request → Request
without_keys_of job named r = if r.job == job then without_keys named r else r

-- the job's requests give up their wants of the named keys, and requests without wants leave
abbrev pub without_named : List Request → ℕ → List Want → List Request
without_named requests job named = filter has_wants (map (without_keys_of job named) requests)

-- function 0
abbrev pub dequeue_named : List Request → ℕ → List Want → Outcome
dequeue_named requests job named =
    unless_refused requests (first_refusal (dequeue_fault requests job) [] named)
    (outcome (without_named requests job named) Done)

-- the requests for which a test holds leave; the call is refused where there are none
abbrev pub dequeue_where : List Request → (Request → Bool) → Outcome
dequeue_where requests test =
    if list_any test requests
    then outcome (filter (λ r. not (test r)) requests) Done
    else outcome requests (Refused NotPresent)

abbrev pub is_of_job : ℕ → Request → Bool
is_of_job job r = r.job == job

abbrev pub has_id : ℕ → ℕ → Request → Bool
has_id job id r = r.job == job && r.id == id

-- function 1: all requests of the job leave
abbrev pub dequeue_all : List Request → ℕ → Outcome
dequeue_all requests job = dequeue_where requests (is_of_job job)

-- function 2: all requests of the job with that id leave
abbrev pub dequeue_id : List Request → ℕ → ℕ → Outcome
dequeue_id requests job id = dequeue_where requests (has_id job id)
