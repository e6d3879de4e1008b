-- Wants are given up, and requests leave (this project's profile).
use Rattle.std.specs.Prelude.{◌≡◌, ◌<◌, ◌==◌, ◌&&◌, ℕ, Bool, true, not, List, [], ◌∷◌, length, filter, Option}
use Rattle.lock_queue.specs.declared.key.Key.{Key}
use Rattle.lock_queue.specs.declared.request.Request.{Request}
use Rattle.lock_queue.specs.declared.want.Want.{Want}
use Rattle.lock_queue.specs.Dequeues.{with_wants, without_keys_of}
use Rattle.lock_queue.specs.Grants.{staying_if}
use Rattle.lock_queue.specs.Keys.{same_key}
use Rattle.key_queues.specs.Tables.{is_there}
use Rattle.key_queues.specs.declared.lock.Lock.{Lock}
use Rattle.key_queues.specs.Locks.{lock_at}
use Rattle.lock_queue.specs.Jobs.{is_among}
use Rattle.key_queues.specs.declared.entry.Entry.{Entry}
use Rattle.key_queues.specs.Stores.{Stored, entry_at, is_blocked, slots_of}
use Rattle.lock_table.specs.TableStates.{want_at}
use Rattle.lock_table.specs.Reads.{IsSole, request_at}
use Rattle.lock_table.specs.declared.leaving.Leavers.{Leavers}
use Rattle.lock_table.specs.declared.leaving.Leavers.TheVariants.{All, Job, Id, Waiter, Waiters}

-- a request without its want of a key
abbrev pub without_key : Key → Request → Request
without_key key r = with_wants r (filter (λ v. not (same_key key v.key)) r.wants.items)

-- each lock keeps its key, and each but one its queue
pub record KeepsLocks (locks more : List Lock) (n : ℕ) : Type 0 where
  pub keys : (m : ℕ) → (lock_at more m).key ≡ (lock_at locks m).key
  pub queues : (m : ℕ) → (m ≡ n → ⊥) → (lock_at more m).queue ≡ (lock_at locks m).queue

-- the k-th want of a request is that of a key
pub record IsWantOf (s : Stored) (p : ℕ) (key : Key) (k : ℕ) : Type 0 where
  pub within : k < length (entry_at s p).queues.items
  pub of : (want_at s p k).key ≡ key

-- the requests stay that a test keeps, and each is then as `then` says
pub record IsLeft (s t : Stored) (then : ℕ → Request) (stays : ℕ → Bool) : Type 0 where
  pub order : t.order ≡ filter stays s.order
  pub left : (x : ℕ) → is_there x t.order ≡ true → (entry_at t x).request ≡ then x

-- all stay but those of some slots
abbrev pub stays_beside : List ℕ → ℕ → Bool
stays_beside slots x = not (is_there x slots)

-- what a call leaves of each request is in its slot after it, and those that stay are in order
pub record LeavesBy (left : Request → Option Request) (s t : Stored) : Type 0 where
  pub stays : ℕ → Bool
  pub order : t.order ≡ filter stays s.order
  pub left_is : (x : ℕ) → is_there x s.order ≡ true → left (request_at s x) ≡ staying_if (stays x) (request_at t x)

-- what is left of a request of a job that gives up the first of some keys
abbrev pub left_named : Stored → ℕ → List Want → ℕ → Request
left_named s job named x = without_keys_of job named (request_at s x)

-- one key is named, and a job has one request alone, whose only want is of it
pub record IsSoleNamed (s : Stored) (job : ℕ) (named : List Want) (p : ℕ) : Type 0 where
  pub want : Want
  pub named_is : named ≡ want ∷ []
  pub sole : IsSole s job want.key p

-- which requests are a job's, and which block one of some jobs
abbrev pub is_of : Stored → ℕ → ℕ → Bool
is_of s job x = (entry_at s x).request.job == job

abbrev pub is_blocking_at : Stored → (ℕ → Bool) → ℕ → Bool
is_blocking_at s waiters x = waiters (entry_at s x).request.job && is_blocked (entry_at s x)

-- whether a request is one of those that leave
abbrev pub is_leaver : Leavers → Entry → Bool
is_leaver All f = true
is_leaver (Job job) f = f.request.job == job
is_leaver (Id job id) f = f.request.job == job && f.request.id == id
is_leaver (Waiter job) f = f.request.job == job && is_blocked f
is_leaver (Waiters jobs) f = is_among jobs f.request.job && is_blocked f

abbrev pub is_leaver_at : Stored → Leavers → ℕ → Bool
is_leaver_at s who x = is_leaver who (entry_at s x)

-- whether a request leaves, of those that `may_be_leavers` gives
abbrev pub is_chosen : Leavers → Entry → Bool
is_chosen All f = true
is_chosen (Job job) f = true
is_chosen (Id job id) f = f.request.id == id
is_chosen (Waiter job) f = is_blocked f
is_chosen (Waiters jobs) f = is_among jobs f.request.job && is_blocked f

-- the slots of the requests that may leave
abbrev pub may_be_leavers : Stored → Leavers → List ℕ
may_be_leavers s All = s.order
may_be_leavers s (Job job) = slots_of s job
may_be_leavers s (Id job id) = slots_of s job
may_be_leavers s (Waiter job) = slots_of s job
may_be_leavers s (Waiters jobs) = s.order

-- the requests for which a test holds leave
abbrev pub LeavesWhere : Stored → Stored → (ℕ → Bool) → Type 0
LeavesWhere s t test = IsLeft s t (request_at s) (λ x. not (test x))
