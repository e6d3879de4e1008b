-- Which requests left and which were granted meanwhile (this project's profile).
use Rattle.std.specs.Prelude.{◌==◌, ◌&&◌, ℕ, Bool, not, filter, List, Option}
use Rattle.std.specs.List.{list_any}
use Rattle.lock_queue.specs.declared.request.Request.{Request}
use Rattle.lock_queue.specs.Jobs.{first_id, is_blocking}
use Rattle.lock_queue.specs.Queue.{granted_behind, names}

-- whether a request has one of another's locks
abbrev pub has_lock_of : Request → Request → Bool
has_lock_of r old = list_any (λ w. names old.wants.items w.key) r.wants.items

-- whether a request is what remains of an earlier one: it has its job and its id, and one of its locks. A job has one
-- request at most that names a lock
abbrev pub is_rest_of : Request → Request → Bool
is_rest_of r old = (r.job == old.job && r.id == old.id) && has_lock_of r old

-- whether a request was among those that were not granted before
abbrev pub was_waiting : List Request → Request → Bool
was_waiting before r = list_any (λ old. is_rest_of r old) before

-- whether something of an earlier request is still present
abbrev pub is_present : List Request → Request → Bool
is_present requests old = list_any (λ r. is_rest_of r old) requests

-- of the requests that were not granted before, the id of the one by which a job waited; it is the one that ends with the
-- job's time limit
abbrev pub waiting_id : List Request → ℕ → Option ℕ
waiting_id before job = first_id (filter (λ r. r.job == job && is_blocking r.kind) before)

-- whether a request that stands behind these others was granted meanwhile
abbrev pub is_new_grant : List Request → List Request → Request → Bool
is_new_grant before earlier r = granted_behind earlier r && was_waiting before r
