-- The jobs by number (this project's profile).
use Rattle.std.specs.Prelude.{ℕ, ◌≡◌, ◌≤◌, ◌+◌, Bool, false, List, length, replicate, Option, Some, None, slice_index_or}
use Rattle.std.specs.List.{list_any}
use Rattle.word36.specs.declared.sizes.TheConstants.{JOBS}
use Rattle.job_sched.specs.declared.job.Job.{Job}
use Rattle.job_sched.specs.Jobs.{is_asleep}

-- the job of each number, the number of the job that ran last, 0 for none, and how many ticks are left of its quantum
pub record Table : Type 0 where
  pub jobs : List (Option Job)
  pub current : ℕ
  pub left : ℕ

-- a table without jobs
abbrev pub no_jobs : Table
no_jobs = record { jobs = replicate (JOBS + 1) None; current = 0; left = 0 }

-- the job of a number, if it is there
abbrev pub job_at : List (Option Job) → ℕ → Option Job
job_at jobs n = slice_index_or jobs n None

-- whether the job of a slot is there, and sleeps or has a limit
abbrev pub is_sleeper : Option Job → Bool
is_sleeper (Some j) = is_asleep j
is_sleeper None = false

-- what a table keeps: a slot for each number and one before them, no job for which ticks count where `sleepers` is false, and no
-- job from a number on
pub record IsTable (jobs : List (Option Job)) (sleepers : Bool) (vacant_from : ℕ) : Type 0 where
  pub slots : length jobs ≡ JOBS + 1
  pub awake : sleepers ≡ false → list_any is_sleeper jobs ≡ false
  pub most : vacant_from ≤ JOBS + 1
  pub vacant : (n : ℕ) → vacant_from ≤ n → job_at jobs n ≡ None
