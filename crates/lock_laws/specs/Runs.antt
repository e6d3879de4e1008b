-- What holds along every list of calls (this project's profile).
use Rattle.std.specs.Prelude.{◌≡◌, ℕ, ◌≤◌, false, List, [], length, take, Some, slice_get}
use Rattle.lock_queue.specs.declared.call.LockCall.{LockCall}
use Rattle.lock_queue.specs.declared.request.Request.{Request}
use Rattle.lock_queue.specs.Calls.{requests_after}
use Rattle.lock_queue.specs.Jobs.{is_waiting_job}
use Rattle.lock_laws.specs.Circles.{NoPlainCircle}
use Rattle.lock_laws.specs.Owning.{KeepsOwners}
use Rattle.lock_laws.specs.Safe.{Safe}

-- the requests after the first k of some calls, each with its job, on an empty queue
abbrev pub requests_at : ℕ → List (ℕ × LockCall) → ℕ → List Request
requests_at size calls k = requests_after size [] (take k calls)

-- the requests are safe after every beginning of the calls
abbrev pub AlwaysSafe : ℕ → List (ℕ × LockCall) → Type 0
AlwaysSafe size calls = (k : ℕ) → k ≤ length calls → Safe size (requests_at size calls k)

-- no call but a job's own dequeue takes away what the job owns
abbrev pub AlwaysKeepsOwners : ℕ → List (ℕ × LockCall) → Type 0
AlwaysKeepsOwners size calls =
    (k : ℕ) (call : ℕ × LockCall) → slice_get calls k ≡ Some call → KeepsOwners size (requests_at size calls k) call.0 call.1

-- each call is made by a job that does not wait then
abbrev pub CallersAreFree : ℕ → List (ℕ × LockCall) → Type 0
CallersAreFree size calls =
    (k : ℕ) (call : ℕ × LockCall) → slice_get calls k ≡ Some call → is_waiting_job (requests_at size calls k) call.0 ≡ false

-- after no beginning of the calls is there a circle of plain jobs
abbrev pub NeverPlainCircle : ℕ → List (ℕ × LockCall) → Type 0
NeverPlainCircle size calls = (k : ℕ) → k ≤ length calls → NoPlainCircle (requests_at size calls k)
