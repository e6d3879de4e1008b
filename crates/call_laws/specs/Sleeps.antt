-- SLEEP lasts exactly as long as it says (TOPS-10 Monitor Calls Manual).
use Rattle.std.specs.Prelude.{ℕ, ◌≡◌, ◌+◌, ◌-◌, ◌*◌, ◌<◌, ◌≤◌, true, false, List, length, Some, None}
use Rattle.word36.specs.Words.{right_half}
use Rattle.job_sched.specs.Ready.{is_ready}
use Rattle.job_sched.specs.Tables.{job_at}
use Rattle.job_sched.specs.declared.job.Job.{Job}
use Rattle.job_sched.specs.declared.job.Wait.TheVariants.{Sleep}
use Rattle.uuo_calls.specs.CallState.{ac_of}
use Rattle.uuo_calls.specs.Laws.{service_in}
use Rattle.uuo_calls.specs.Performed.{World, performed}
use Rattle.uuo_calls.specs.declared.call.MonitorCall.{MonitorCall}
use Rattle.uuo_calls.specs.declared.service.Service.TheVariants.{Sleep as SleepCall}
use Rattle.machine.specs.Alone.{Spares}
use Rattle.machine.specs.Limits.{ticks_in}
use Rattle.machine.specs.Machine.{S, after, ticked}
use Rattle.machine.specs.Safe.{Safe}
use Rattle.machine.specs.declared.event.Event.{Event}

-- job n sleeps, with so many ticks left, and has the registers that it had
pub record IsAsleep (w : World) (n ticks : ℕ) (before : Job) : Type 0 where
  pub job : Job
  pub there : job_at w.table.jobs n ≡ Some job
  pub wait : job.wait ≡ Sleep ticks
  pub regs : job.regs ≡ before.regs

-- SLEEP of one second or more: the job sleeps for 60 ticks a second
abbrev pub SleepBegins : Type 0
SleepBegins =
    (w : World) (time n : ℕ) (c : MonitorCall) (j : Job)
    → job_at w.table.jobs n ≡ Some j → n < length w.table.jobs → service_in c ≡ SleepCall → 1 ≤ right_half (ac_of j c.ac)
    → IsAsleep (performed w time n c).world n (60 * right_half (ac_of j c.ac)) j

-- A job that sleeps, and that nobody starts or kills, is not ready and makes no step until as many ticks have passed as are left of
-- its sleep, whatever else happens. After the last of them it is ready, unless it is stopped.
pub record SleepLasts (s : S) (events : List Event) (n ticks : ℕ) (j : Job) : Type 0 where
  pub sleeps : ticks_in events < ticks → IsAsleep (after events s).world n (ticks - ticks_in events) j
  pub idle : ticks_in events < ticks
      → is_ready (after events s).world.table.jobs (after events s).world.lines (after events s).world.requests n ≡ false
  pub ends : ticks_in events + 1 ≡ ticks → (k : Job) → job_at (ticked (after events s)).state.world.table.jobs n ≡ Some k → k.stop ≡ None
      → is_ready (ticked (after events s)).state.world.table.jobs (ticked (after events s)).state.world.lines
      (ticked (after events s)).state.world.requests n ≡ true

abbrev pub SleepsLast : Type 0
SleepsLast =
    (s : S) (events : List Event) (n ticks : ℕ) (j : Job)
    → Safe s → IsAsleep s.world n ticks j → Spares n events → SleepLasts s events n ticks j
