-- What a call leaves of the requests that are present (this project's profile).
use Rattle.std.specs.Prelude.{◌≡◌, ◌<◌, ℕ, List, length, filter_map}
use Rattle.arrayvec.specs.ArrayVec.{ArrayVec}
use Rattle.lock_queue.specs.Calls.{outcome_of}
use Rattle.lock_queue.specs.Grants.{left_of}
use Rattle.lock_queue.specs.Jobs.{released}
use Rattle.lock_queue.specs.Queue.{granted}
use Rattle.lock_queue.specs.declared.call.Asking.{Asking}
use Rattle.lock_queue.specs.declared.call.LockCall.{LockCall}
use Rattle.lock_queue.specs.declared.call.LockCall.TheVariants.{Enqueue, DequeueAll}
use Rattle.lock_queue.specs.declared.call.LockReply.TheVariants.{Done}
use Rattle.lock_queue.specs.declared.request.Request.{Request}
use Rattle.lock_queue.specs.declared.want.Want.{Want}

-- a request that arrives changes no grant of those before it
abbrev pub ArrivalsGrantNobody : Type 0
ArrivalsGrantNobody =
    (size : ℕ) (requests : List Request) (job i : ℕ) (asking : Asking) (wants : ArrayVec Want) → i < length requests
    → granted (outcome_of size requests job (Enqueue asking wants)).requests i ≡ granted requests i

-- where a call is done, and where all requests of a job leave, the list is what is left of each request, in order
pub record ListIsWhatIsLeft (size : ℕ) : Type 0 where
  pub by_calls : (requests : List Request) (job : ℕ) (call : LockCall) → (outcome_of size requests job call).reply ≡ Done
      → (outcome_of size requests job call).requests ≡ filter_map (left_of job call) requests
  pub by_releases : (requests : List Request) (job : ℕ) → released requests job ≡ filter_map (left_of job DequeueAll) requests
