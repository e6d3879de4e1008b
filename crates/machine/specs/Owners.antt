-- A job owns a key until an event gives it up (ENQ/DEQ of the TOPS-10 Monitor Calls Manual, in this
-- project's profile).
use Rattle.std.specs.Prelude.{ℕ, ◌≡◌, Bool, true, false, Option, Some, None, ⊤}
use Rattle.lock_queue.specs.declared.key.Key.{Key}
use Rattle.lock_laws.specs.Owning.{owns}
use Rattle.job_sched.specs.Tables.{job_at}
use Rattle.job_sched.specs.declared.job.Job.{Job}
use Rattle.uuo_calls.specs.Performed.{World}
use Rattle.uuo_calls.specs.Services.{service_of}
use Rattle.uuo_calls.specs.declared.service.Service.{Service}
use Rattle.uuo_calls.specs.declared.service.Service.TheVariants.{Reset, Exit, Logout, Deq}
use Rattle.machine.specs.declared.event.Answer.TheVariants.{Ran}
use Rattle.machine.specs.declared.event.Event.{Event}
use Rattle.machine.specs.declared.event.Event.TheVariants.{Step, Kill, Restart}
use Rattle.uuo_calls.specs.declared.call.MonitorCall.{MonitorCall}
use Rattle.machine.specs.Machine.{S, awake, happens}
use Rattle.machine.specs.Turns.{turn_of}

-- the calls that give locks up: DEQ., RESET, EXIT 0 and LOGOUT
abbrev pub is_release : Service → Bool
is_release Reset = true
is_release Exit = true
is_release Logout = true
is_release Deq = true
is_release _ = false

-- whether a turn makes such a call
abbrev pub releases : Option MonitorCall → Bool
releases (Some c) = is_release (service_of c.kind c.ac c.e)
releases None = false

-- whether the turn of job n makes such a call
abbrev pub turn_releases : World → ℕ → Option Job → Bool
turn_releases w n (Some j) = releases (turn_of n (awake j) w.cores w.requests).call
turn_releases w n None = false

-- the event is a kill of that job, a restart, or a step with the answer Ran of that job, in which it makes such a call
abbrev pub GivesUp : S → Event → ℕ → Type 0
GivesUp s (Kill n) job = n ≡ job
GivesUp s Restart job = ⊤
GivesUp s Step job =
    ((happens s Step).answer ≡ Ran job)
    × (turn_releases s.world job (job_at s.world.table.jobs job) ≡ true)
GivesUp s _ job = ⊥

-- where a job owned a key before an event and does not own it after, the event gives it up; the requests that leave at a tick
-- or a start are not granted, so no owner loses a key by these
abbrev pub KeepsOwners : S → Event → Type 0
KeepsOwners s e =
    (job : ℕ) (key : Key) → owns s.world.requests job key ≡ true
    → owns (happens s e).state.world.requests job key ≡ false → GivesUp s e job
