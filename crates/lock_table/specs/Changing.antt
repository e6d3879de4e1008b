-- Wants that are made shared or exclusive, by the queues of their keys (this project's profile).
use Rattle.std.specs.Prelude.{◌≡◌, ◌<◌, ℕ, Bool, true, false, ◌&&◌, ◌==◌}
use Rattle.std.specs.Prelude.{if◌then◌else◌, List, [], ◌∷◌, None, is_some, drop, length, map}
use Rattle.std.specs.List.{All, list_any, position_or_len}
use Rattle.lock_queue.specs.declared.key.Key.{Key}
use Rattle.lock_queue.specs.declared.request.Request.{Request}
use Rattle.lock_queue.specs.declared.want.Want.{Want}
use Rattle.lock_queue.specs.Changes.{changed, changed_group}
use Rattle.lock_queue.specs.Queue.{is_pooled, names, requests_of, wants_at}
use Rattle.lock_queue.specs.WellFormed.{are_apart}
use Rattle.key_queues.specs.declared.lock.Lock.{Lock}
use Rattle.key_queues.specs.Beginnings.{fitting, is_share_of}
use Rattle.key_queues.specs.Locks.{lock_at}
use Rattle.key_queues.specs.States.{FlagsAll, IsKept, IsUsed, InUseHaveRequests, IsFull, IsQueued}
use Rattle.key_queues.specs.Tables.{is_there, slots_at}
use Rattle.key_queues.specs.Entries.{with_want}
use Rattle.key_queues.specs.Stores.{Stored, entry_at, with_entry}
use Rattle.lock_table.specs.TableStates.{state_of, queued_want}
use Rattle.lock_table.specs.Reads.{request_at}
use Rattle.lock_table.specs.Whole.{JobsAreApart, requests_in}

-- a want made shared or exclusive
abbrev pub changed_by : Want → Want → Want
changed_by c w = record w { shared = c.shared; group = changed_group c.shared w }

-- a request with one change made
abbrev pub changed_once : ℕ → Want → Request → Request
changed_once job c r = changed job (c ∷ []) r

-- the want of a slot in a queue, once the job's want in it is changed
abbrev pub want_then : Stored → ℕ → ℕ → Want → ℕ → Want
want_then s n job c p =
    if (request_at s p).job == job then changed_by c (queued_want s p n) else queued_want s p n

-- how many wants of a change's key fit once it is made
abbrev pub fitting_then : (ℕ → Request) → List ℕ → ℕ → Want → ℕ
fitting_then at order job c = fitting (wants_at (map (λ x. changed_once job c (at x)) order) c.key)

-- whether a request behind those has its flag set
abbrev pub is_lost_by : (ℕ → Request) → (ℕ → Bool) → List ℕ → ℕ → Want → Bool
is_lost_by at flag order job c = list_any flag (drop (fitting_then at order job c) (slots_at at order c.key))

abbrev pub loses_by : Stored → ℕ → Want → Bool
loses_by s job c = is_lost_by (request_at s) (λ x. (entry_at s x).granted) s.order job c

-- a present request has a want in a queue, which is not of a pool
pub record IsUnpooledAt (s : Stored) (n p : ℕ) : Type 0 where
  pub present : is_there p s.order ≡ true
  pub within : position_or_len (λ m. m == n) (entry_at s p).queues.items < length (request_at s p).wants.items
  pub unpooled : is_share_of None (queued_want s p n).pool ≡ true

-- a change does not make a pool's want of the job shared
abbrev pub SparesPools : Stored → ℕ → Want → Type 0
SparesPools s job c = (c.shared && list_any is_pooled (wants_at (requests_of (requests_in s) job) c.key)) ≡ false

-- the want of a slot in a queue, changed
abbrev pub altered_at : Stored → ℕ → Want → ℕ → Stored
altered_at s n c p =
    with_entry s p
    (with_want (entry_at s p) (position_or_len (λ m. m == n) (entry_at s p).queues.items) (changed_by c (queued_want s p n)))

-- a change is sound: the job has a want of its key, which is not of a pool or stays as it is, and no grant is lost
pub record IsSound (s : Stored) (locks : List Lock) (job : ℕ) (c : Want) : Type 0 where
  pub slot : ℕ
  pub present : is_there slot s.order ≡ true
  pub mine : (request_at s slot).job ≡ job
  pub named : names (request_at s slot).wants.items c.key ≡ true
  pub spared : (n : ℕ) → (lock_at locks n).key ≡ c.key → is_some (lock_at locks n).size ≡ true → IsUsed (state_of s locks) n
      → (x : ℕ) → is_there x s.order ≡ true → changed_once job c (request_at s x) ≡ request_at s x
  pub safe : loses_by s job c ≡ false

-- what holds of a table while wants are changed
pub record IsBetween (s : Stored) (locks : List Lock) : Type 0 where
  pub kept : IsKept (state_of s locks)
  pub flags : FlagsAll (state_of s locks)
  pub used : InUseHaveRequests (state_of s locks)
  pub jobs : JobsAreApart s

-- one change is made: more wants may fit then than are counted
pub record Altered (s t : Stored) (locks more : List Lock) (job : ℕ) (c : Want) : Type 0 where
  pub order : t.order ≡ s.order
  pub at : (x : ℕ) → is_there x s.order ≡ true → request_at t x ≡ changed_once job c (request_at s x)
  pub own : (x : ℕ) → (entry_at t x).queues.items ≡ (entry_at s x).queues.items
  pub flag : (x : ℕ) → (entry_at t x).granted ≡ (entry_at s x).granted
  pub key : (m : ℕ) → (lock_at more m).key ≡ (lock_at locks m).key
  pub size : (m : ℕ) → (lock_at more m).size ≡ (lock_at locks m).size
  pub others : (m : ℕ) → ((lock_at locks m).key ≡ c.key → ⊥) → (lock_at more m).queue ≡ (lock_at locks m).queue

-- the changes are of different keys, and each is sound
pub record AreSound (s : Stored) (locks : List Lock) (job : ℕ) (changes : List Want) : Type 0 where
  pub apart : are_apart changes ≡ true
  pub each : All (IsSound s locks job) changes

-- some changes of all are made, and the later ones are not
pub record IsAltering (s t : Stored) (locks more : List Lock) (job : ℕ) (changes later : List Want) : Type 0 where
  pub order : t.order ≡ s.order
  pub at : (x : ℕ) → is_there x s.order ≡ true → changed job later (request_at t x) ≡ changed job changes (request_at s x)
  pub own : (x : ℕ) → (entry_at t x).queues.items ≡ (entry_at s x).queues.items
  pub flag : (x : ℕ) → (entry_at t x).granted ≡ (entry_at s x).granted
  pub key : (m : ℕ) → (lock_at more m).key ≡ (lock_at locks m).key
  pub size : (m : ℕ) → (lock_at more m).size ≡ (lock_at locks m).size
  pub others : (m : ℕ) → names changes (lock_at locks m).key ≡ false → (lock_at more m).queue ≡ (lock_at locks m).queue
  pub named : (key : Key) → names later key ≡ true → names changes key ≡ true

-- all wants that fit are counted, but for those of some keys
abbrev pub IsFullBut : Stored → List Lock → List Want → Type 0
IsFullBut s locks later =
    (x m : ℕ) → IsQueued (state_of s locks) x m → names later (lock_at locks m).key ≡ false → IsFull (state_of s locks) m

-- the wants of the later keys are left to be counted
pub record IsExtending (s t : Stored) (locks more : List Lock) (later : List Want) : Type 0 where
  pub order : t.order ≡ s.order
  pub at : (x : ℕ) → request_at t x ≡ request_at s x
  pub full : IsFullBut t more later

-- the wants of a job are changed
pub record IsChanged (s t : Stored) (job : ℕ) (changes : List Want) : Type 0 where
  pub order : t.order ≡ s.order
  pub at : (x : ℕ) → is_there x s.order ≡ true → request_at t x ≡ changed job changes (request_at s x)
