-- How orders end (this project's profile).
use Rattle.std.specs.Prelude.{ℕ, zero, suc, Bool, true, ◌&&◌, not, if◌then◌else◌, List, [], ◌∷◌, ◌++◌, map, Option, Some, None, is_some}
use Rattle.lock_queue.specs.Jobs.{waits_for}
use Rattle.lock_queue.specs.Waits.{is_in_circle}
use Rattle.lock_queue.specs.declared.request.Request.{Request}
use Rattle.job_sched.specs.Tables.{job_at}
use Rattle.job_sched.specs.declared.job.Job.{Job}
use Rattle.job_sched.specs.declared.job.Stop.{Stop}
use Rattle.job_sched.specs.declared.job.Wait.{Wait}
use Rattle.job_order_laws.specs.Turned.{V, can_run}
use Rattle.job_orders.specs.Forms.{JobForm}
use Rattle.job_orders.specs.Views.{jobs_in}
use Rattle.job_orders.specs.declared.ends.End.{End}
use Rattle.job_orders.specs.declared.ends.Left.{Left}
use Rattle.job_orders.specs.declared.ends.Standing.{Standing}
use Rattle.job_orders.specs.declared.ends.Standing.TheVariants.{Gone, Stopped, Waits}

-- how the job of a slot has ended, if it cannot take a turn
abbrev pub stopped_or : Wait → Option Stop → Standing
stopped_or wait (Some stop) = Stopped stop
stopped_or wait None = Waits wait

abbrev pub standing_of : Option Job → Standing
standing_of None = Gone
standing_of (Some j) = stopped_or j.wait j.stop

-- what a job leaves: how it has ended, the address of its last turn, and the characters that it put out
pub record JobEnding : Type 0 where
  pub standing : Standing
  pub last : ℕ
  pub text : List ℕ

-- what all jobs leave, and the words that they share: two ends of which these are the same count as one
pub record Ending : Type 0 where
  pub jobs : List JobEnding
  pub shared : List ℕ

-- as a report has it
abbrev pub job_ending_of : Left → JobEnding
job_ending_of l = record { standing = l.standing; last = l.last; text = l.text.items }

abbrev pub ending_of : End → Ending
ending_of e = record { jobs = map job_ending_of e.jobs.items; shared = e.shared.items }

-- as a state has it
abbrev pub job_ending : JobForm → JobEnding
job_ending j = record { standing = standing_of j.slot; last = j.last; text = j.text }

abbrev pub ending_in : ℕ → V → Ending
ending_in count v = record { jobs = map job_ending (jobs_in v count); shared = v.machine.world.shared }

-- whether none of jobs 1 to `count` can take a turn
unfoldable pub rests : ℕ → V → Bool
rests zero v = true
rests (suc count) v = rests count v && not (can_run v.machine.world (suc count))

-- those of jobs 1 to `count` from which a walk of waits leads back, rising
unfoldable pub circle_in : ℕ → List Request → List ℕ
circle_in zero requests = []
circle_in (suc count) requests =
    if is_in_circle (waits_for requests) (suc count) then circle_in count requests ++ suc count ∷ [] else circle_in count requests

-- the highest of numbers 1 to n that has a job, 0 if none has
unfoldable pub highest_job : List (Option Job) → ℕ → ℕ
highest_job jobs zero = 0
highest_job jobs (suc n) = if is_some (job_at jobs (suc n)) then suc n else highest_job jobs n
