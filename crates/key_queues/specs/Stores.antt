-- The entries of a table by their slots, and the order of arrival (this project's profile).
use Rattle.std.specs.Prelude.{Bool, List, None, Option, Some, [], filter, if◌then◌else◌, length, not}
use Rattle.std.specs.Prelude.{slice_index_or, slice_set, ℕ, ◌&&◌, ◌++◌, ◌+◌}
use Rattle.std.specs.Prelude.{◌-◌, ◌==◌, ◌∷◌, ◌≡◌, ◌≤◌}
use Rattle.std.specs.List.{position_or_len, remove}
use Rattle.word36.specs.declared.sizes.TheConstants.{JOBS, MOST_REQUESTS}
use Rattle.lock_queue.specs.Jobs.{is_blocking}
use Rattle.key_queues.specs.declared.entry.Entry.{Entry}
use Rattle.key_queues.specs.Entries.{unused_entry}
use Rattle.key_queues.specs.Tables.{is_there, AreDistinct}
use Rattle.key_queues.specs.EntrySlabs.{content_at, is_filled}

-- a list without the first element that is this slot
abbrev pub without_slot : List ℕ → ℕ → List ℕ
without_slot slots p = remove slots (position_or_len (λ x. x == p) slots)

-- what each slot holds, and the slots of the requests that are present, in order of arrival
pub record Stored : Type 0 where
  pub entries : List Entry
  pub order : List ℕ

abbrev pub entry_at : Stored → ℕ → Entry
entry_at s p = slice_index_or s.entries p unused_entry

-- with another entry in a slot
abbrev pub with_entry : Stored → ℕ → Entry → Stored
with_entry s p f = record s { entries = slice_set s.entries p f }

-- with a request that comes last
abbrev pub inserted : Stored → ℕ → Entry → Stored
inserted s p f = record { entries = slice_set s.entries p f; order = s.order ++ p ∷ [] }

-- without the request of a slot
abbrev pub removed : Stored → ℕ → Stored
removed s p = record { entries = slice_set s.entries p unused_entry; order = without_slot s.order p }

-- the slots of a job's requests, in order
abbrev pub slots_of : Stored → ℕ → List ℕ
slots_of s job = filter (λ p. (entry_at s p).request.job == job) s.order

-- whether a job waits for its request
abbrev pub is_blocked : Entry → Bool
is_blocked f = is_blocking f.request.kind && not f.granted

-- by how many of its requests a job waits
abbrev pub blocked_of : Stored → ℕ → ℕ
blocked_of s job = length (filter (λ p. is_blocked (entry_at s p)) (slots_of s job))

abbrev pub entry_or : Option Entry → Entry
entry_or (Some f) = f
entry_or None = unused_entry

abbrev pub job_at : List (Option Entry) → ℕ → ℕ
job_at contents p = (entry_or (content_at contents p)).request.job

-- a job's list
abbrev pub list_of : List (List ℕ) → ℕ → List ℕ
list_of own job = slice_index_or own job []

abbrev pub blocked_at : List (Option Entry) → ℕ → Bool
blocked_at contents p = is_blocked (entry_or (content_at contents p))

-- the count of a job
abbrev pub number_of : List ℕ → ℕ → ℕ
number_of counts job = slice_index_or counts job 0

abbrev pub one_if : Bool → ℕ
one_if b = if b then 1 else 0

-- a count, corrected for one request: whether it counted before, and whether it counts now
abbrev pub recounted : ℕ → Bool → Bool → ℕ
recounted n was is = n + one_if is - one_if was

-- of n slots, the order has those that hold an entry, each once; and each job has the list of its slots, and the count of
-- those by whose requests it waits
pub record IsStored (n : ℕ) (contents : List (Option Entry)) (len : ℕ) (order : List ℕ) (own : List (List ℕ))
    (counts : List ℕ) : Type 0 where
  pub small : n ≤ MOST_REQUESTS
  pub long : length contents ≡ n
  pub there : (p : ℕ) → is_there p order ≡ is_filled contents p
  pub once : AreDistinct order
  pub many : len ≡ length order
  pub few : length order ≤ n
  pub lists : length own ≡ JOBS + 1
  pub jobs : (p : ℕ) → job_at contents p ≤ JOBS
  pub each : (job : ℕ) → job ≤ JOBS → list_of own job ≡ filter (λ p. job_at contents p == job) order
  pub numbers : length counts ≡ JOBS + 1
  pub blocked : (job : ℕ) → job ≤ JOBS → number_of counts job ≡ length (filter (blocked_at contents) (list_of own job))
