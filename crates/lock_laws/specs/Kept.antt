-- What each change of the list of requests keeps: a call, the release of a job that ended, a wait that is given up, a job
-- that is notified of its grant (this project's profile).
use Rattle.std.specs.Prelude.{◌≡◌, ◌&&◌, ℕ, Bool, true, false, IsTrue, List, length, nat_le}
use Rattle.std.specs.List.{list_all}
use Rattle.word36.specs.declared.sizes.TheConstants.{LOCKS_A_CALL}
use Rattle.lock_queue.specs.declared.call.LockCall.{LockCall}
use Rattle.lock_queue.specs.declared.call.LockCall.TheVariants.{Enqueue, Modify, DequeueNamed, DequeueAll, DequeueId}
use Rattle.lock_queue.specs.declared.key.Key.{Key}
use Rattle.lock_queue.specs.declared.request.Request.{Request}
use Rattle.lock_queue.specs.Calls.{outcome_of}
use Rattle.lock_queue.specs.Jobs.{is_waiting_job, released, withdrawn_where, job_notified}
use Rattle.lock_queue.specs.WellFormed.{is_in_range, are_well_formed, is_call}
use Rattle.lock_laws.specs.Circles.{NoPlainCircle, WaitsByLatest}
use Rattle.lock_laws.specs.Owning.{owns, KeepsOwners}
use Rattle.lock_laws.specs.Safe.{Safe}

-- safe requests stay safe
pub record SafetyIsKept (size : ℕ) : Type 0 where
  pub by_calls : (requests : List Request) (job : ℕ) (call : LockCall) → Safe size requests
      → Safe size (outcome_of size requests job call).requests
  pub by_releases : (requests : List Request) (job : ℕ) → Safe size requests → Safe size (released requests job)
  pub by_withdrawals : (requests : List Request) (waiters : ℕ → Bool) → Safe size requests
      → Safe size (withdrawn_where requests waiters)
  pub by_notifying : (requests : List Request) (job : ℕ) → Safe size requests → Safe size (job_notified requests job)

-- what the types of a call say of a request that it enters: at most 16 wants, with levels and pools in range
abbrev pub is_in_range_call : LockCall → Bool
is_in_range_call (Enqueue asking wants) = nat_le (length wants.items) LOCKS_A_CALL && list_all is_in_range wants.items
is_in_range_call (Modify wants) = true
is_in_range_call (DequeueNamed wants) = true
is_in_range_call DequeueAll = true
is_in_range_call (DequeueId id) = true

-- well-formed requests stay so over each call that can be made
pub record WellFormednessIsKept (size : ℕ) : Type 0 where
  pub by_calls : (requests : List Request) (job : ℕ) (call : LockCall) → IsTrue (is_call job call)
      → IsTrue (is_in_range_call call)
      → IsTrue (are_well_formed requests) → IsTrue (are_well_formed (outcome_of size requests job call).requests)
  pub by_releases : (requests : List Request) (job : ℕ) → IsTrue (are_well_formed requests)
      → IsTrue (are_well_formed (released requests job))
  pub by_withdrawals : (requests : List Request) (waiters : ℕ → Bool) → IsTrue (are_well_formed requests)
      → IsTrue (are_well_formed (withdrawn_where requests waiters))
  pub by_notifying : (requests : List Request) (job : ℕ) → IsTrue (are_well_formed requests)
      → IsTrue (are_well_formed (job_notified requests job))

-- a job loses what it owns only by its own dequeue, and when it ends
pub record OwnersAreKept (size : ℕ) : Type 0 where
  pub by_calls : (requests : List Request) (caller : ℕ) (call : LockCall) → KeepsOwners size requests caller call
  pub by_releases : (requests : List Request) (gone job : ℕ) (key : Key) → owns requests job key ≡ true
      → owns (released requests gone) job key ≡ false → gone ≡ job
  pub by_withdrawals : (requests : List Request) (waiters : ℕ → Bool) (job : ℕ) (key : Key) → owns requests job key ≡ true
      → owns (withdrawn_where requests waiters) job key ≡ true
  pub by_notifying : (requests : List Request) (notified job : ℕ) (key : Key) → owns requests job key ≡ true
      → owns (job_notified requests notified) job key ≡ true

-- where the caller does not wait, each job still waits by its latest request
pub record LatestIsKept (size : ℕ) : Type 0 where
  pub by_calls : (requests : List Request) (job : ℕ) (call : LockCall) → is_waiting_job requests job ≡ false
      → WaitsByLatest requests
      → WaitsByLatest (outcome_of size requests job call).requests
  pub by_releases : (requests : List Request) (job : ℕ) → WaitsByLatest requests → WaitsByLatest (released requests job)
  pub by_withdrawals : (requests : List Request) (waiters : ℕ → Bool) → WaitsByLatest requests
      → WaitsByLatest (withdrawn_where requests waiters)
  pub by_notifying : (requests : List Request) (job : ℕ) → WaitsByLatest requests → WaitsByLatest (job_notified requests job)

-- where the requests are safe and jobs wait by their latest ones, plain jobs make no circle
abbrev pub SafeJobsMakeNoCircle : Type 0
SafeJobsMakeNoCircle = (size : ℕ) (requests : List Request) → Safe size requests → WaitsByLatest requests → NoPlainCircle requests
