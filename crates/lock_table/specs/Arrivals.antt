-- A request that arrives, and whose wants are entered one by one (this project's profile).
use Rattle.std.specs.Prelude.{◌≡◌, ◌≤◌, ◌<◌, ℕ, List, [], ◌∷◌, ◌++◌, None, length, slice_index_or, take, true}
use Rattle.word36.specs.declared.sizes.TheConstants.{JOBS, LOCKS_A_CALL}
use Rattle.lock_queue.specs.declared.want.Want.{Want}
use Rattle.lock_queue.specs.Dequeues.{with_wants}
use Rattle.lock_queue.specs.Unused.{unused_want}
use Rattle.lock_queue.specs.WellFormed.{are_apart}
use Rattle.key_queues.specs.declared.found.Found.{Found}
use Rattle.key_queues.specs.declared.lock.Lock.{Lock}
use Rattle.key_queues.specs.Beginnings.{is_share_of}
use Rattle.key_queues.specs.Found.{IsFound}
use Rattle.key_queues.specs.Locks.{lock_at}
use Rattle.key_queues.specs.LockUse.{in_use_for}
use Rattle.key_queues.specs.States.{IsKept, CountsAll, FlagsBut, InUseHaveRequests}
use Rattle.key_queues.specs.Tables.{is_there}
use Rattle.key_queues.specs.Stores.{Stored, entry_at}
use Rattle.lock_table.specs.TableStates.{state_of}

-- a slot is the last of a list
abbrev pub IsLast : ℕ → List ℕ → Type 0
IsLast p order = (before : List ℕ) × (order ≡ before ++ p ∷ [])

-- the lock in use of a want's key, if there is one, takes it: both are pools of one size or neither is a pool; and there is
-- room
pub record Admits (locks : List Lock) (w : Want) : Type 0 where
  pub alike : (n : ℕ) → in_use_for w.key (lock_at locks n) ≡ true → is_share_of (lock_at locks n).size w.pool ≡ true
  pub room : (n : ℕ) → in_use_for w.key (lock_at locks n) ≡ true → length (lock_at locks n).queue.slots < JOBS

-- the locks in use of wants take them, from the k-th want on
abbrev pub AdmitsFrom : ℕ → List Lock → List Want → Type 0
AdmitsFrom k locks wants = (j : ℕ) → k ≤ j → j < length wants → Admits locks (slice_index_or wants j unused_want)

-- what stands for a look-up that was not made
abbrev pub no_found : Found
no_found = record { hash = 0; number = None }

-- the look-ups of the keys of wants, from the k-th on
abbrev pub AreFound : ℕ → List Lock → List Want → List Found → Type 0
AreFound k locks wants found =
    (j : ℕ) → k ≤ j → j < length wants → IsFound locks (slice_index_or wants j unused_want).key (slice_index_or found j no_found)

-- no request has more queues than a call names locks
abbrev pub AreShort : Stored → Type 0
AreShort s = (x : ℕ) → is_there x s.order ≡ true → length (entry_at s x).queues.items ≤ LOCKS_A_CALL

-- what holds while the first k of some wants of the last request are entered
pub record IsArriving (s : Stored) (locks : List Lock) (p : ℕ) (wants : List Want) (k : ℕ) : Type 0 where
  pub kept : IsKept (state_of s locks)
  pub full : CountsAll (state_of s locks)
  pub flags : FlagsBut p (state_of s locks)
  pub used : InUseHaveRequests (state_of s locks)
  pub last : IsLast p s.order
  pub entered : (entry_at s p).request.wants.items ≡ take k wants
  pub own : length (entry_at s p).queues.items ≡ k
  pub within : k ≤ length wants
  pub apart : are_apart wants ≡ true
  pub few : length wants ≤ LOCKS_A_CALL
  pub admits : AdmitsFrom k locks wants
  pub short : AreShort s

-- all requests are as they were, but for the wants of one
pub record SameRequests (s t : Stored) (p : ℕ) : Type 0 where
  pub order : t.order ≡ s.order
  pub mine : with_wants (entry_at t p).request [] ≡ with_wants (entry_at s p).request []
  pub others : (x : ℕ) → (x ≡ p → ⊥) → (entry_at t x).request ≡ (entry_at s x).request
  pub flags : (x : ℕ) → (entry_at t x).granted ≡ (entry_at s x).granted
