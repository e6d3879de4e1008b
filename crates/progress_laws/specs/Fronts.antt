-- The requests in front of another (ENQ/DEQ of the TOPS-10 Monitor Calls Manual, in this project's profile).
use Rattle.std.specs.Prelude.{◌≡◌, ◌⊎◌, ◌==◌, ◌&&◌, if◌then◌else◌, ℕ, Bool, true, false, List, [], ◌∷◌, ◌++◌}
use Rattle.lock_queue.specs.declared.key.Key.{Key}
use Rattle.lock_queue.specs.declared.call.LockCall.{LockCall}
use Rattle.lock_queue.specs.declared.call.LockCall.TheVariants.{Modify}
use Rattle.lock_queue.specs.declared.request.Request.{Request}
use Rattle.lock_queue.specs.declared.want.Want.{Want}
use Rattle.lock_queue.specs.Calls.{outcome_of}
use Rattle.lock_queue.specs.Jobs.{released, withdrawn_where, job_notified}
use Rattle.lock_queue.specs.Queue.{names}
use Rattle.lock_laws.specs.Owning.{is_dequeue}
use Rattle.progress_laws.specs.Thinning.{Thinned, Follows}

-- a want has stayed the same
abbrev pub IsSame : Want → Want → Type 0
IsSame v w = w ≡ v

-- a want has stayed the same, except that it may have become shared or exclusive, with another group
abbrev pub IsSameButSharing : Want → Want → Type 0
IsSameButSharing v w = w ≡ record v { shared = w.shared; group = w.group }

-- a request that stays keeps its job, id and kind, and the same wants or fewer, in order; its grant may have been notified
pub record Remains (Same : Want → Want → Type 0) (r s : Request) : Type 0 where
  pub job : s.job ≡ r.job
  pub id : s.id ≡ r.id
  pub kind : s.kind ≡ r.kind
  pub wants : Thinned Same r.wants.items s.wants.items

-- whether a request is the job's and wants the key; in a safe list no job has two such requests
abbrev pub wants_key : ℕ → Key → Request → Bool
wants_key job key r = r.job == job && names r.wants.items key

-- the requests in front of the first for which a test holds
abbrev pub in_front : (Request → Bool) → List Request → List Request
in_front test [] = []
in_front test (r ∷ later) = if test r then [] else r ∷ in_front test later

-- over a change by a job some requests leave, or one of that job comes after them all; never both
abbrev pub LeaveOrCome : (Want → Want → Type 0) → ℕ → List Request → List Request → Type 0
LeaveOrCome Same job before after =
    Thinned (Remains Same) before after ⊎ ((r : Request) × (r.job ≡ job) × (after ≡ before ++ r ∷ []))

-- over more changes some of the requests from before are left, in their order, and those that have come since stand after them
abbrev pub NobodyInFront : (Want → Want → Type 0) → List Request → List Request → Type 0
NobodyInFront Same before after = Follows (Remains Same) before after

-- whether a call is ENQ. function 3, which changes wants
abbrev pub is_change : LockCall → Bool
is_change (Modify wants) = true
is_change _ = false

-- no change of the list of requests, in a queue of this size, puts a request in front of another, and none but ENQ. function 3
-- makes a want shared or exclusive
pub record NobodyComesInFront (size : ℕ) : Type 0 where
  pub by_calls : (requests : List Request) (job : ℕ) (call : LockCall)
      → LeaveOrCome IsSameButSharing job requests (outcome_of size requests job call).requests
  pub by_other_calls : (requests : List Request) (job : ℕ) (call : LockCall) → is_change call ≡ false
      → LeaveOrCome IsSame job requests (outcome_of size requests job call).requests
  pub by_dequeues : (requests : List Request) (job : ℕ) (call : LockCall) → is_dequeue call ≡ true
      → Thinned (Remains IsSame) requests (outcome_of size requests job call).requests
  pub by_releases : (requests : List Request) (job : ℕ) → Thinned (Remains IsSame) requests (released requests job)
  pub by_withdrawals : (requests : List Request) (waiters : ℕ → Bool) → Thinned (Remains IsSame) requests (withdrawn_where requests waiters)
  pub by_notifying : (requests : List Request) (job : ℕ) → Thinned (Remains IsSame) requests (job_notified requests job)
