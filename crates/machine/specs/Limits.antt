-- A wait with a limit ends in time: the request is granted before, or the call is refused at the last tick (this project's
-- profile).
use Rattle.std.specs.Prelude.{ℕ, ◌≡◌, ◌+◌, ◌-◌, ◌≤◌, ◌⊎◌, Bool, true, false, List, Some, count_by, take}
use Rattle.lock_queue.specs.Jobs.{is_waiting_job}
use Rattle.lock_queue.specs.Refusals.{code_of}
use Rattle.lock_queue.specs.declared.refusal.Refusal.TheVariants.{TimedOut}
use Rattle.job_sched.specs.Limits.{at_error_return}
use Rattle.job_sched.specs.Tables.{job_at}
use Rattle.job_sched.specs.declared.job.Job.{Job}
use Rattle.job_sched.specs.declared.job.Wait.TheVariants.{None as Nothing, Queue}
use Rattle.uuo_calls.specs.CallState.{ac_of}
use Rattle.uuo_calls.specs.Performed.{World}
use Rattle.machine.specs.Alone.{Spares}
use Rattle.machine.specs.Machine.{S, after, ticked}
use Rattle.machine.specs.declared.event.Event.{Event}
use Rattle.machine.specs.declared.event.Event.TheVariants.{Tick}

-- the job after the limit of its wait: it is at the error return of its ENQ., whose AC has code 17
abbrev pub timed_out : ℕ → Job → Job
timed_out ac j = at_error_return (code_of TimedOut) ac j

-- job n waits for a grant, with so many ticks left, or without a limit where that is 0; its call was made with this AC
pub record IsInWait (w : World) (n : ℕ) (j : Job) (limit ac : ℕ) : Type 0 where
  pub there : job_at w.table.jobs n ≡ Some j
  pub wait : j.wait ≡ Queue limit ac
  pub holds : is_waiting_job w.requests n ≡ true

-- what one tick does to such a job
pub record LimitCounts (s : S) (n : ℕ) (j : Job) (limit ac : ℕ) : Type 0 where
  -- a limit with more ticks left is one tick shorter, and all else of the job stays
  pub shorter : 2 ≤ limit → job_at (ticked s).state.world.table.jobs n ≡ Some (record j { wait = Queue (limit - 1) ac })
  -- at its last tick the call is refused, and the job has no request by which it waits
  pub refused : limit ≡ 1 → job_at (ticked s).state.world.table.jobs n ≡ Some (timed_out ac j)
  pub ended : limit ≡ 1 → is_waiting_job (ticked s).state.world.requests n ≡ false
  -- a wait without a limit stays so
  pub endless : limit ≡ 0 → job_at (ticked s).state.world.table.jobs n ≡ Some j

abbrev pub LimitsCount : S → Type 0
LimitsCount s = (n limit ac : ℕ) (j : Job) → IsInWait s.world n j limit ac → LimitCounts s n j limit ac

-- job n has this word in an accumulator
abbrev pub Holds : World → ℕ → ℕ → ℕ → Type 0
Holds w n ac word = (j : Job) × (job_at w.table.jobs n ≡ Some j) × (ac_of j ac ≡ word)

-- at the last tick of its limit the accumulator of the call gets 21 octal, the code of a wait that has timed out
abbrev pub LimitsLeaveTheirCode : S → Type 0
LimitsLeaveTheirCode s = (n ac : ℕ) (j : Job) → IsInWait s.world n j 1 ac → Holds (ticked s).state.world n ac 0o21

-- the limit of a job that does not wait any more does not count
abbrev pub GrantsStopLimits : S → Type 0
GrantsStopLimits s =
    (n limit ac : ℕ) (j : Job) → job_at s.world.table.jobs n ≡ Some j → j.wait ≡ Queue limit ac → is_waiting_job s.world.requests n ≡ false
    → job_at (ticked s).state.world.table.jobs n ≡ Some j

-- how many of some events are ticks
abbrev pub is_tick : Event → Bool
is_tick Tick = true
is_tick _ = false

abbrev pub ticks_in : List Event → ℕ
ticks_in events = count_by is_tick events

-- after so many ticks the request of job n is granted; its registers are as before, and its limit has ticks left
pub record IsGranted (w : World) (n : ℕ) (before : Job) (limit ac ticks : ℕ) : Type 0 where
  pub job : Job
  pub there : job_at w.table.jobs n ≡ Some job
  pub regs : job.regs ≡ before.regs
  pub left : ℕ
  pub wait : job.wait ≡ Queue left ac
  pub some : 1 ≤ left
  pub counted : left + ticks ≡ limit
  pub over : is_waiting_job w.requests n ≡ false

-- after as many ticks as its limit the call of job n is refused, with code 21 octal in its accumulator, and the job has no request
-- by which it waits
pub record IsTimedOut (w : World) (n : ℕ) (before : Job) (limit ac ticks : ℕ) : Type 0 where
  pub job : Job
  pub there : job_at w.table.jobs n ≡ Some job
  pub code : ac_of job ac ≡ 0o21
  pub regs : job.regs ≡ (timed_out ac before).regs
  pub wait : job.wait ≡ Nothing
  pub counted : ticks ≡ limit
  pub over : is_waiting_job w.requests n ≡ false

-- after the first k events of a run the wait of job n has ended in one way or the other
abbrev pub HasEnded : S → List Event → ℕ → Job → ℕ → ℕ → ℕ → Type 0
HasEnded s events n j limit ac k =
    IsGranted (after (take k events) s).world n j limit ac (ticks_in (take k events))
    ⊎ IsTimedOut (after (take k events) s).world n j limit ac (ticks_in (take k events))

-- where a job waits with a limit, and nobody starts or kills it or restarts the machine, its wait has ended so by the time that
-- as many ticks as its limit have passed, whatever else happens between them
abbrev pub LimitsAreKept : S → List Event → Type 0
LimitsAreKept s events =
    (n limit ac : ℕ) (j : Job) → IsInWait s.world n j limit ac → 1 ≤ limit → Spares n events → limit ≤ ticks_in events
    → (k : ℕ) × HasEnded s events n j limit ac k
