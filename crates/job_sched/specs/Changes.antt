-- Changes of the table of jobs (this project's profile).
use Rattle.std.specs.Prelude.{ℕ, zero, suc, ◌+◌, ◌-◌, ◌==◌, ◌&&◌, nat_lt, Bool, false, is_none, if◌then◌else◌, List, []}
use Rattle.std.specs.Prelude.{◌∷◌, drop, map, slice_set, Option, Some, None, Result, Ok, Err}
use Rattle.std.specs.Option.{option_map}
use Rattle.job_sched.specs.declared.job.Job.{Job}
use Rattle.job_sched.specs.declared.job_error.JobError.{JobError}
use Rattle.job_sched.specs.declared.job_error.JobError.TheVariants.{NoSuchJob, NotStopped}
use Rattle.job_sched.specs.Jobs.{ticked_job, broken_job}
use Rattle.job_sched.specs.Tables.{Table, job_at}

-- the table with this in the slot of job n
abbrev pub with_job : Table → ℕ → Option Job → Table
with_job t n o = record t { jobs = slice_set t.jobs n o }

-- the table with job n changed, if it is there
abbrev pub with_change : Table → ℕ → (Job → Job) → Table
with_change t n change = with_job t n (option_map change (job_at t.jobs n))

-- the table with each job changed
abbrev pub with_each : Table → (Job → Job) → Table
with_each t change = record t { jobs = map (option_map change) t.jobs }

-- the table without job n; where that was current, nothing is left of the quantum
abbrev pub table_without : Table → ℕ → Table
table_without t n =
    record { jobs = slice_set t.jobs n None; current = t.current; left = if t.current == n then 0 else t.left }

-- the first half of a tick: every sleep and the quantum are one tick shorter
abbrev pub ticked_table : Table → Table
ticked_table t = record (with_each t ticked_job) { left = t.left - 1 }

-- CTRL-C is typed at a line
abbrev pub broken_table : Table → ℕ → Table
broken_table t line = with_each t (broken_job line)

-- whether a job can start or go on: it is there and stopped
abbrev pub standing : Option Job → Result (Unit {0}) JobError
standing (Some j) = if is_none j.stop then Err NotStopped else Ok tt
standing None = Err NoSuchJob

-- whether the job of a slot is there and has this line
abbrev pub is_at : ℕ → Option Job → Bool
is_at line (Some j) = j.line == line
is_at line None = false

-- the first of these slots, numbered from n on, that has no job
abbrev pub first_free : ℕ → List (Option Job) → Option ℕ
first_free n [] = None
first_free n (Some j ∷ more) = first_free (n + 1) more
first_free n (None ∷ more) = Some n

-- the least number, from 1 on, that no job has
abbrev pub free_number : List (Option Job) → Option ℕ
free_number jobs = first_free 1 (drop 1 jobs)

-- job n becomes the current one: it keeps what is left of its quantum where it was current already, and gets a whole quantum
-- otherwise
abbrev pub chosen : Table → ℕ → ℕ → Table
chosen t n quantum = if (t.current == n) && nat_lt 0 t.left then t else record t { current = n; left = quantum }

-- what a job has left of its quantum when it is next again: a whole one where nothing was left
abbrev pub renewed : ℕ → ℕ → ℕ
renewed quantum left = if nat_lt 0 left then left else quantum

-- what a job has left after so many rounds in a row, each with its tick, when it is next again
abbrev pub left_after : ℕ → ℕ → ℕ → ℕ
left_after quantum left zero = left
left_after quantum left (suc rounds) = renewed quantum (left_after quantum left rounds - 1)

-- the table after so many rounds of the current job in a row, each with its tick, when the job is next again
abbrev pub spent : Table → ℕ → ℕ → Table
spent t quantum rounds = record t { left = left_after quantum t.left rounds }
