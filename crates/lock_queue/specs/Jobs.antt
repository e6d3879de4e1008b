-- What concerns the requests of one job: which leave, which wait, of which it is notified (ENQ/DEQ of the TOPS-10
-- Monitor Calls Manual, in this project's profile).
use Rattle.std.specs.Prelude.{ℕ, ◌/◌, ◌%◌, ◌^◌, Bool, true, false, not, ◌==◌, ◌&&◌, ◌||◌}
use Rattle.std.specs.Prelude.{if◌then◌else◌, List, [], ◌∷◌, ◌++◌, Option, Some, None, filter}
use Rattle.std.specs.List.{list_any}
use Rattle.lock_queue.specs.declared.request.EnqueueKind.{EnqueueKind}
use Rattle.lock_queue.specs.declared.request.EnqueueKind.TheVariants.{Blocking, AtOnce, Interrupt}
use Rattle.lock_queue.specs.declared.request.Request.{Request}
use Rattle.lock_queue.specs.declared.want.Want.{Want}
use Rattle.lock_queue.specs.Queue.{agree, is_pooled, fits, granted_behind, requests_of, wants_at, chosen, some_behind}

abbrev pub is_blocking : EnqueueKind → Bool
is_blocking Blocking = true
is_blocking AtOnce = false
is_blocking Interrupt = false

abbrev pub is_interrupt : EnqueueKind → Bool
is_interrupt Interrupt = true
is_interrupt Blocking = false
is_interrupt AtOnce = false

-- whether a job is this one
abbrev pub is_one : ℕ → ℕ → Bool
is_one job j = j == job

-- whether a job is in a set of jobs, which has bit 2 ^ j for each job j
abbrev pub is_among : ℕ → ℕ → Bool
is_among jobs j = (jobs / 2 ^ j) % 2 == 1

-- the list without the requests of some jobs, and of one
abbrev pub released_where : List Request → (ℕ → Bool) → List Request
released_where requests gone = filter (λ r. not (gone r.job)) requests

abbrev pub released : List Request → ℕ → List Request
released requests job = released_where requests (is_one job)

-- whether one of some jobs waits by a request: it is blocking, and not granted; and the same of one job
abbrev pub is_blocked_where : (ℕ → Bool) → List Request → Request → Bool
is_blocked_where waiters earlier r = (waiters r.job && is_blocking r.kind) && not (granted_behind earlier r)

abbrev pub is_blocked : ℕ → List Request → Request → Bool
is_blocked job earlier r = is_blocked_where (is_one job) earlier r

abbrev pub is_waiting_job : List Request → ℕ → Bool
is_waiting_job requests job = some_behind (is_blocked job) [] requests

-- the list without the requests by which some jobs wait, and by which one does
abbrev pub is_not_blocked_where : (ℕ → Bool) → List Request → Request → Bool
is_not_blocked_where waiters earlier r = not (is_blocked_where waiters earlier r)

abbrev pub withdrawn_where : List Request → (ℕ → Bool) → List Request
withdrawn_where requests waiters = chosen (is_not_blocked_where waiters) requests

abbrev pub withdrawn : List Request → ℕ → List Request
withdrawn requests job = withdrawn_where requests (is_one job)

-- the list without the requests by which the jobs of a set wait, all judged by the list before any of them left
abbrev pub withdrawn_all : List Request → ℕ → List Request
withdrawn_all requests jobs = withdrawn_where requests (is_among jobs)

-- a job's granted interrupt request of which it was not notified yet
abbrev pub is_pending : ℕ → List Request → Request → Bool
is_pending job earlier r = ((r.job == job && is_interrupt r.kind) && not r.notified) && granted_behind earlier r

-- the id of the first of some requests
abbrev pub first_id : List Request → Option ℕ
first_id [] = None
first_id (r ∷ later) = Some r.id

-- the id of the first such request of the job
abbrev pub pending : List Request → ℕ → Option ℕ
pending requests job = first_id (chosen (is_pending job) requests)

-- a request of which its job is notified
abbrev pub as_notified : Request → Request
as_notified r = record r { notified = true }

-- the requests, with the job notified of the first for which the test holds
abbrev pub notified_behind : (List Request → Request → Bool) → List Request → List Request → List Request
notified_behind test earlier [] = []
notified_behind test earlier (r ∷ later) =
    if test earlier r then as_notified r ∷ later else r ∷ notified_behind test (earlier ++ r ∷ []) later

-- the list once the job is notified of its pending request
abbrev pub job_notified : List Request → ℕ → List Request
job_notified requests job = notified_behind (is_pending job) [] requests

-- an earlier want of a key stands in the way of a later one where it is of a pool or does not agree
abbrev pub is_in_the_way : Want → Want → Bool
is_in_the_way v w = is_pooled v || not (agree v w)

-- whether a want does not fit, and an earlier want of its key that stands in its way is the job's
abbrev pub is_kept_by : ℕ → List Request → Want → Bool
is_kept_by job earlier w =
    not (fits earlier w) && list_any (λ v. is_in_the_way v w) (wants_at (requests_of earlier job) w.key)

-- whether a request blocks the first job, and the second keeps it from a want
abbrev pub is_blocked_by : ℕ → ℕ → List Request → Request → Bool
is_blocked_by job other earlier r = is_blocked job earlier r && list_any (is_kept_by other earlier) r.wants.items

-- whether the first job waits for the second
abbrev pub waits_for : List Request → ℕ → ℕ → Bool
waits_for requests job other = some_behind (is_blocked_by job other) [] requests
