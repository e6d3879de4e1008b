-- The jobs that wait for a grant.
use Rattle.std.specs.Prelude.{ℕ, ◌≡◌, Bool, true, not, ◌↔◌, List, Option, Some, None}
use Rattle.lock_queue.specs.declared.request.Request.{Request}
use Rattle.lock_queue.specs.Jobs.{is_waiting_job}
use Rattle.lock_queue.specs.Queue.{chosen, granted_behind}
use Rattle.job_sched.specs.Limits.{is_queue}
use Rattle.job_sched.specs.Tables.{job_at}
use Rattle.job_sched.specs.declared.job.Job.{Job}
use Rattle.job_sched.specs.declared.job.Wait.{Wait}
use Rattle.job_sched.specs.declared.job.Wait.TheVariants.{None as Nothing}
use Rattle.uuo_calls.specs.Performed.{World}
use Rattle.machine.specs.Views.{held_wait}

-- what job n waits for
abbrev pub waiting_for : World → ℕ → Option Job → Wait
waiting_for w n (Some j) = held_wait w.lines w.requests n j
waiting_for w n None = Nothing

-- the requests that are not granted, in order of arrival
abbrev pub is_ungranted : List Request → Request → Bool
is_ungranted earlier r = not (granted_behind earlier r)

abbrev pub ungranted : List Request → List Request
ungranted requests = chosen is_ungranted requests

-- a job has a blocking request that is not granted exactly where it waits for a grant
abbrev pub WaitsForGrants : World → Type 0
WaitsForGrants w = (n : ℕ) → (is_waiting_job w.requests n ≡ true) ↔ (is_queue (waiting_for w n (job_at w.table.jobs n)) ≡ true)
