-- Who gives up what it owns (this project's profile).
use Rattle.std.specs.Prelude.{◌≡◌, ℕ, Bool, true, false, List}
use Rattle.lock_queue.specs.declared.call.LockCall.{LockCall}
use Rattle.lock_queue.specs.declared.call.LockCall.TheVariants.{Enqueue, Modify, DequeueNamed, DequeueAll, DequeueId}
use Rattle.lock_queue.specs.declared.key.Key.{Key}
use Rattle.lock_queue.specs.declared.request.Request.{Request}
use Rattle.lock_queue.specs.Calls.{outcome_of}
use Rattle.lock_queue.specs.Queue.{owners}
use Rattle.lock_queue.specs.StatusWords.{has_job}

-- whether the job owns the key
abbrev pub owns : List Request → ℕ → Key → Bool
owns requests job key = has_job (owners requests key) job

abbrev pub is_dequeue : LockCall → Bool
is_dequeue (Enqueue asking wants) = false
is_dequeue (Modify wants) = false
is_dequeue (DequeueNamed wants) = true
is_dequeue DequeueAll = true
is_dequeue (DequeueId id) = true

-- where a job owns a key before a call and not after it, the call is a dequeue by that job
abbrev pub KeepsOwners : ℕ → List Request → ℕ → LockCall → Type 0
KeepsOwners size requests caller call =
    (job : ℕ) (key : Key) → owns requests job key ≡ true
    → owns (outcome_of size requests caller call).requests job key ≡ false
    → (is_dequeue call ≡ true) × (caller ≡ job)
