-- What holds of a table between two calls (this project's profile).
use Rattle.std.specs.Prelude.{◌≡◌, ◌≤◌, ℕ, true, List, [], ◌∷◌, length, map}
use Rattle.lock_queue.specs.declared.key.Key.{Key}
use Rattle.lock_queue.specs.declared.request.Request.{Request}
use Rattle.lock_queue.specs.Queue.{names}
use Rattle.lock_queue.specs.StatusWords.{level_of}
use Rattle.lock_queue.specs.WellFormed.{is_well_formed}
use Rattle.key_queues.specs.declared.lock.Lock.{Lock}
use Rattle.key_queues.specs.States.{IsTable}
use Rattle.key_queues.specs.Tables.{is_there}
use Rattle.key_queues.specs.Stores.{Stored, entry_at}
use Rattle.lock_table.specs.TableStates.{state_of}

-- the requests of a store, in order of arrival
abbrev pub requests_in : Stored → List Request
requests_in s = map (λ x. (entry_at s x).request) s.order

-- each request that is present is a job's, and has 1 to 16 right wants
abbrev pub AreRight : Stored → Type 0
AreRight s = (x : ℕ) → is_there x s.order ≡ true → is_well_formed (entry_at s x).request ≡ true

-- no job has two requests with wants of one key
abbrev pub JobsAreApart : Stored → Type 0
JobsAreApart s =
    (x y : ℕ) (key : Key) → is_there x s.order ≡ true → is_there y s.order ≡ true
    → names (entry_at s x).request.wants.items key ≡ true
    → names (entry_at s y).request.wants.items key ≡ true
    → (entry_at s x).request.job ≡ (entry_at s y).request.job
    → x ≡ y

-- the level at which a request wants a key
abbrev pub level_at : Request → Key → ℕ
level_at r key = level_of (r ∷ []) key

-- a key is wanted at one level
abbrev pub LevelsAgree : Stored → Type 0
LevelsAgree s =
    (x y : ℕ) (key : Key) → is_there x s.order ≡ true → is_there y s.order ≡ true
    → names (entry_at s x).request.wants.items key ≡ true
    → names (entry_at s y).request.wants.items key ≡ true
    → level_at (entry_at s x).request key ≡ level_at (entry_at s y).request key

-- the queues count the wants that fit, and the flags are set where requests are granted; the requests are right
pub record IsWhole (size : ℕ) (s : Stored) (locks : List Lock) : Type 0 where
  pub table : IsTable (state_of s locks)
  pub right : AreRight s
  pub jobs : JobsAreApart s
  pub levels : LevelsAgree s
  pub few : length s.order ≤ size
