-- Jobs that stand before a call on a lock (ENQ/DEQ of the TOPS-10 Monitor Calls Manual, in this project's profile).
use Rattle.std.specs.Prelude.{ℕ, ◌==◌, ◌&&◌, ◌||◌, not, Bool, false, is_some, List, Option, Some, None, Ok, Err}
use Rattle.std.specs.List.{list_any}
use Rattle.word36.specs.Words.{left_half, right_half}
use Rattle.lock_queue.specs.Keys.{same_name}
use Rattle.lock_queue.specs.declared.name.Name.{Name}
use Rattle.lock_queue.specs.declared.request.Request.{Request}
use Rattle.lock_queue.specs.declared.want.Want.{Want}
use Rattle.uuo_calls.specs.Asked.{ReadBlock}
use Rattle.uuo_calls.specs.declared.asked.Asked.{Asked}
use Rattle.uuo_calls.specs.declared.asked.LockService.{LockService}
use Rattle.uuo_calls.specs.declared.asked.LockService.TheVariants.{Enq, Deq, Enqc}
use Rattle.machine.specs.Machine.{S}
use Rattle.machine.specs.Next.{asked_next, block_next}
use Rattle.machine.specs.Views.{job_view}
use Rattle.machine.specs.declared.view.JobView.{JobView}

-- whether one of these wants is for a lock of this name
abbrev pub has_name : Name → List Want → Bool
has_name name wants = list_any (λ w. same_name w.key.name name) wants

-- whether a call of this function and this number gives up a request of this id by another way than by its locks: DEQ. 1
-- gives up each request of its job, DEQ. 2 those with the id that it names
abbrev pub gives_up_by : LockService → ℕ → ℕ → ℕ → Bool
gives_up_by Deq function named id = function == 1 || (function == 2 && id == named)
gives_up_by Enq function named id = false
gives_up_by Enqc function named id = false

abbrev pub gives_up : Asked → Request → Bool
gives_up asked r = gives_up_by asked.service (left_half asked.word) (right_half asked.word) r.id

-- whether a job's call gives up this request, and the request wants a lock of this name
abbrev pub gives_up_lock : Asked → ℕ → Name → Request → Bool
gives_up_lock asked job name r = (r.job == job && gives_up asked r) && has_name name r.wants.items

-- whether a call with this block is on a lock of this name: the block names the lock, or, where the call reads none, it gives
-- up a request of its job that wants the lock
abbrev pub is_on : Name → S → ℕ → Asked → ReadBlock → Bool
is_on name s job asked (Some (Ok block)) = has_name name block.wants.items
is_on name s job asked (Some (Err refusal)) = false
is_on name s job asked None = list_any (gives_up_lock asked job name) s.world.requests

abbrev pub is_on_if : Name → S → ℕ → Option Asked → ReadBlock → Bool
is_on_if name s job (Some asked) block = is_on name s job asked block
is_on_if name s job None block = false

-- whether a job is there and is not stopped
abbrev pub goes : Option JobView → Bool
goes (Some view) = not (is_some view.stop)
goes None = false

-- whether a job, which is not stopped, stands before a call on a lock of this name
abbrev pub stands_before : Name → S → ℕ → Bool
stands_before name s job = goes (job_view s.world job) && is_on_if name s job (asked_next s.world job) (block_next s.world job)

-- and on the lock where runs stop, if there is one
abbrev pub stands_at_lock : Option Name → S → ℕ → Bool
stands_at_lock (Some name) s job = stands_before name s job
stands_at_lock None s job = false
