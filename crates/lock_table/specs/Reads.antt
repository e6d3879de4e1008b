-- What questions about a table read (this project's profile).
use Rattle.std.specs.Prelude.{◌≡◌, ◌==◌, ◌&&◌, ℕ, Bool, true, not, List, []}
use Rattle.std.specs.Prelude.{◌∷◌, Option, Some, None, filter, length, map, take}
use Rattle.std.specs.List.{list_any, position_or_len}
use Rattle.lock_queue.specs.declared.key.Key.{Key}
use Rattle.lock_queue.specs.declared.request.Request.{Request}
use Rattle.lock_queue.specs.declared.status.Status.{Status}
use Rattle.lock_queue.specs.Jobs.{is_interrupt, is_kept_by}
use Rattle.lock_queue.specs.Queue.{granted_behind, names}
use Rattle.lock_queue.specs.StatusWords.{status_from}
use Rattle.key_queues.specs.Tables.{AreDistinct, is_there}
use Rattle.key_queues.specs.declared.entry.Entry.{Entry}
use Rattle.key_queues.specs.Stores.{Stored, entry_at, is_blocked, slots_of}

abbrev pub request_at : Stored → ℕ → Request
request_at s x = (entry_at s x).request

-- the requests in some slots
abbrev pub requests_at : Stored → List ℕ → List Request
requests_at s slots = map (λ x. (entry_at s x).request) slots

-- the slots before one
abbrev pub before_of : List ℕ → ℕ → List ℕ
before_of slots p = take (position_or_len (λ x. x == p) slots) slots

-- the flag of each request is set where it is granted
pub record MarksGrants (s : Stored) : Type 0 where
  pub once : AreDistinct s.order
  pub marks : (p : ℕ) → is_there p s.order ≡ true
      → (entry_at s p).granted ≡ granted_behind (requests_at s (before_of s.order p)) (request_at s p)

-- a job has one request alone, whose only want is of a key
pub record IsSole (s : Stored) (job : ℕ) (key : Key) (p : ℕ) : Type 0 where
  pub own : slots_of s job ≡ p ∷ []
  pub one : length (request_at s p).wants.items ≡ 1
  pub named : names (request_at s p).wants.items key ≡ true

-- an interrupt request that is granted and not notified
abbrev pub is_pending_entry : Entry → Bool
is_pending_entry f = (is_interrupt f.request.kind && not f.request.notified) && f.granted

abbrev pub id_at : Stored → Option ℕ → Option ℕ
id_at s (Some p) = Some (request_at s p).id
id_at s None = None

-- those of some slots whose requests are granted, and the others
abbrev pub owners_among : Stored → List ℕ → List ℕ
owners_among s slots = filter (λ p. (entry_at s p).granted) slots

abbrev pub waiters_among : Stored → List ℕ → List ℕ
waiters_among s slots = filter (λ p. not (entry_at s p).granted) slots

-- the status of a key of this level that the requests in some slots want
abbrev pub status_among : Stored → List ℕ → Key → ℕ → ℕ → Status
status_among s slots key asker level =
    status_from key asker level (requests_at s (owners_among s slots)) (requests_at s (waiters_among s slots))

-- whether the request in a slot is a job's and has a want in a queue
abbrev pub is_job_queued_at : Stored → ℕ → ℕ → ℕ → Bool
is_job_queued_at s job n p = (request_at s p).job == job && is_there n (entry_at s p).queues.items

-- whether a job keeps a request from one of its wants
abbrev pub is_kept_from : Stored → ℕ → ℕ → Bool
is_kept_from s other p = list_any (is_kept_by other (requests_at s (before_of s.order p))) (request_at s p).wants.items

abbrev pub is_blocked_from : Stored → ℕ → ℕ → Bool
is_blocked_from s other p = is_blocked (entry_at s p) && is_kept_from s other p
