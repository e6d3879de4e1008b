-- The laws along a list of calls.
use Rattle.std.proofs.Common.{◌≡◌, ℕ, zero, suc, false, List, [], ◌∷◌, take, Some, slice_get, refl}
use Rattle.lock_queue.specs.declared.call.LockCall.{LockCall}
use Rattle.lock_queue.specs.declared.request.Request.{Request}
use Rattle.lock_queue.specs.Calls.{outcome_of, requests_after}
use Rattle.lock_queue.specs.Jobs.{is_waiting_job}
use Rattle.lock_laws.specs.Runs.{requests_at, AlwaysSafe, AlwaysKeepsOwners, CallersAreFree, NeverPlainCircle}
use Rattle.lock_laws.proofs.CallSteps.{step_of}
use Rattle.lock_laws.proofs.Circling.{WaitsLast, waits-step, waits-none}
use Rattle.lock_laws.proofs.Invariant.{Kept, kept-calls, kept-none, safe-kept}
use Rattle.lock_laws.proofs.Keeping.{keeps_owners}
use Rattle.lock_laws.proofs.Ranks.{no_plain_circle}

-- what is kept holds after each beginning of the calls
kept-at : (size : ℕ) (calls : List (ℕ × LockCall)) (k : ℕ) → Kept size (requests_at size calls k)
kept-at size calls k = kept-calls size [] (take k calls) (kept-none size)

-- the first law
pub always_safe : (size : ℕ) (calls : List (ℕ × LockCall)) → AlwaysSafe size calls
always_safe size calls k le = safe-kept size (requests_at size calls k) (kept-at size calls k)

-- the second law
pub always_keeps_owners : (size : ℕ) (calls : List (ℕ × LockCall)) → AlwaysKeepsOwners size calls
always_keeps_owners size calls k call at = keeps_owners size (requests_at size calls k) call.0 call.1

-- a job that waits has made no call since
waits-calls : (size : ℕ) (requests : List Request) (calls : List (ℕ × LockCall))
    → ((k : ℕ) (call : ℕ × LockCall) → slice_get calls k ≡ Some call → is_waiting_job (requests_after size requests (take k calls)) call.0 ≡ false)
    → WaitsLast requests → (k : ℕ) → WaitsLast (requests_after size requests (take k calls))
waits-calls size requests [] free w zero = w
waits-calls size requests [] free w (suc k) = w
waits-calls size requests (c ∷ later) free w zero = w
waits-calls size requests (c ∷ later) free w (suc k) =
    waits-calls size (outcome_of size requests c.0 c.1).requests later (λ n call at. free (suc n) call at)
    (waits-step c.0 c.1 requests (outcome_of size requests c.0 c.1).requests (step_of size requests c.0 c.1) (free zero c refl) w) k

-- the third law
pub never_plain_circle : (size : ℕ) (calls : List (ℕ × LockCall)) → CallersAreFree size calls → NeverPlainCircle size calls
never_plain_circle size calls free k le =
    no_plain_circle (requests_at size calls k) (kept-at size calls k).ordered (waits-calls size [] calls free waits-none k)
