-- Each call is a step.
use Rattle.std.proofs.Common.{◌≡◌, ℕ, List, refl, true}
use Rattle.lock_queue.specs.declared.call.LockCall.{LockCall}
use Rattle.lock_queue.specs.declared.call.LockCall.TheVariants.{Enqueue, Modify, DequeueNamed, DequeueAll, DequeueId}
use Rattle.lock_queue.specs.declared.request.Request.{Request}
use Rattle.lock_queue.specs.Calls.{outcome_of}
use Rattle.lock_laws.specs.Owning.{is_dequeue}
use Rattle.lock_laws.proofs.Arrivals.{step-enqueue}
use Rattle.lock_laws.proofs.Departures.{releases-named, releases-all, releases-id}
use Rattle.lock_laws.proofs.Modifications.{step-modify}
use Rattle.lock_laws.proofs.Steps.{Grows, Releases}

pub data Step (size job : ℕ) (call : LockCall) (before after : List Request) : Type 0 where
  grows : Grows size job before after → Step size job call before after
  releases : is_dequeue call ≡ true → Releases job before after → Step size job call before after

-- what each of the five calls does to the list
pub step_of : (size : ℕ) (requests : List Request) (job : ℕ) (call : LockCall)
    → Step size job call requests (outcome_of size requests job call).requests
step_of size requests job (Enqueue asking wants) = grows (step-enqueue size requests job asking wants)
step_of size requests job (Modify wants) = grows (step-modify size requests job wants.items)
step_of size requests job (DequeueNamed wants) = releases refl (releases-named requests job wants.items)
step_of size requests job DequeueAll = releases refl (releases-all requests job)
step_of size requests job (DequeueId id) = releases refl (releases-id requests job id)
