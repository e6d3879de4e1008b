-- Calls after which a job waits for its terminal (TTCALL of the TOPS-10 Monitor Calls Manual, in this project's profile).
use Rattle.std.specs.Prelude.{ℕ, ◌≡◌, ◌<◌, true, false, length, Some}
use Rattle.job_sched.specs.Tables.{job_at}
use Rattle.job_sched.specs.declared.job.Job.{Job}
use Rattle.uuo_calls.specs.Laws.{is_terminal_wait}
use Rattle.uuo_calls.specs.Performed.{World, performed}
use Rattle.uuo_calls.specs.declared.call.CallOutcome.TheVariants.{Empty}
use Rattle.uuo_calls.specs.declared.call.MonitorCall.{MonitorCall}

-- A job that does not wait for its terminal before a call, and does after it, has made an empty step. With `EmptyStepsWait`: a call
-- is an empty step exactly where the job begins to wait for its terminal.
abbrev pub WhoWaitsForItsTerminalMadeAnEmptyStep : Type 0
WhoWaitsForItsTerminalMadeAnEmptyStep =
    (w : World) (time n : ℕ) (c : MonitorCall) (j k : Job)
    → job_at w.table.jobs n ≡ Some j → n < length w.table.jobs → is_terminal_wait j.wait ≡ false
    → job_at (performed w time n c).world.table.jobs n ≡ Some k → is_terminal_wait k.wait ≡ true
    → (performed w time n c).outcome ≡ Empty
