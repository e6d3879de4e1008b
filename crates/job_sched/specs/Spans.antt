-- Rounds in a row of a job that only computes (this project's profile).
use Rattle.std.specs.Prelude.{ℕ, ◌≡◌, ◌<◌, ◌≤◌, ◌==◌, ◌&&◌, Bool, true, false, Option, Some, None}
use Rattle.std.specs.List.{list_any}
use Rattle.job_sched.specs.Jobs.{takes_interrupts}
use Rattle.job_sched.specs.Tables.{Table, is_sleeper, job_at}
use Rattle.job_sched.specs.declared.job.Job.{Job}

-- whether the job of a slot is there and an interrupt can be delivered to it
abbrev pub is_open : Option Job → Bool
is_open (Some j) = takes_interrupts j.interrupts
is_open None = false

-- whether job n, which is next, has just used up its quantum: then the scheduler asked all others before it, and none is ready
abbrev pub is_alone : Table → ℕ → Bool
is_alone t n = (t.current == n) && (t.left == 0)

-- Nothing comes between so many rounds of the current job, with ticks or without, as long as it only computes: no interrupt can be
-- delivered to it, and where ticks are made no job sleeps or has a limit, and its quantum lasts or it is alone.
pub record Undisturbed (t : Table) (n : ℕ) (ticking alone : Bool) (rounds : ℕ) : Type 0 where
  pub current : t.current ≡ n
  pub quantum : 0 < t.left
  pub lasts : ticking ≡ true → alone ≡ false → rounds ≤ t.left
  pub awake : ticking ≡ true → list_any is_sleeper t.jobs ≡ false
  pub closed : is_open (job_at t.jobs n) ≡ false
