-- The limit of a wait for a grant (this project's profile).
use Rattle.std.specs.Prelude.{ℕ, ◌+◌, ◌-◌, ◌%◌, ◌^◌, ◌==◌, ◌&&◌, Bool, true, false, if◌then◌else◌, List, [], ◌∷◌, slice_set, Option, Some}
use Rattle.std.specs.Prelude.{None}
use Rattle.std.specs.Option.{option_map}
use Rattle.lock_queue.specs.declared.refusal.Refusal.TheVariants.{TimedOut}
use Rattle.lock_queue.specs.declared.request.Request.{Request}
use Rattle.lock_queue.specs.Jobs.{is_waiting_job}
use Rattle.lock_queue.specs.Refusals.{code_of}
use Rattle.job_sched.specs.declared.job.Job.{Job}
use Rattle.job_sched.specs.declared.job.Wait.{Wait}
use Rattle.job_sched.specs.declared.job.Wait.TheVariants.{None as Nothing, Queue}
use Rattle.job_sched.specs.Tables.{Table, job_at}

-- how many ticks a wait's limit has left, 0 where it has none
abbrev pub limit_of : Wait → ℕ
limit_of (Queue limit ac) = limit
limit_of _ = 0

-- whether a wait is for a grant
abbrev pub is_queue : Wait → Bool
is_queue (Queue limit ac) = true
is_queue _ = false

-- A job whose call had skipped goes on at the error return of the call: its program counter is one less, the accumulator of the
-- call has the code, and it waits for nothing.
abbrev pub at_error_return : ℕ → ℕ → Job → Job
at_error_return code ac j = record j {
  regs = record j.regs { ac = slice_set j.regs.ac ac code; pc = (j.regs.pc + 0o777777) % 2 ^ 18 };
  wait = Nothing;
}

-- a tick of a wait: its limit is one tick shorter, and where the limit ends the call is refused
abbrev pub limited_by : Wait → Job → Job
limited_by (Queue limit ac) j =
    if limit == 1 then at_error_return (code_of TimedOut) ac j else record j { wait = Queue (limit - 1) ac }
limited_by _ j = j

-- a tick of a job: its limit counts only where it has a blocking request that is not granted
abbrev pub limited_job : Bool → Job → Job
limited_job true j = limited_by j.wait j
limited_job false j = j

-- the slots, numbered from n on, after a tick of their jobs, given which jobs wait
abbrev pub limited_from : (ℕ → Bool) → ℕ → List (Option Job) → List (Option Job)
limited_from waits n [] = []
limited_from waits n (o ∷ more) = option_map (limited_job (waits n)) o ∷ limited_from waits (n + 1) more

-- a tick of all limits, of stopped jobs too
abbrev pub limited_table : Table → List Request → Table
limited_table t requests = record t { jobs = limited_from (is_waiting_job requests) 0 t.jobs }

-- whether the job of a slot is there and its limit has one tick left
abbrev pub is_last_tick : Option Job → Bool
is_last_tick (Some j) = limit_of j.wait == 1
is_last_tick None = false

-- whether the limit of job n ends at this tick
abbrev pub expires : List Request → List (Option Job) → ℕ → Bool
expires requests jobs n = is_waiting_job requests n && is_last_tick (job_at jobs n)
