-- What each monitor call does (TOPS-10 Monitor Calls Manual, in this project's profile).
use Rattle.std.specs.Prelude.{ℕ, List, Option, Some, None}
use Rattle.ka_state.specs.declared.outcome.StopReason.TheVariants.{IllegalInstruction}
use Rattle.core_store.specs.Cores.{Cores, given}
use Rattle.lock_queue.specs.declared.request.Request.{Request}
use Rattle.lock_queue.specs.Jobs.{released}
use Rattle.tty_lines.specs.Rings.{Rings}
use Rattle.job_sched.specs.Changes.{table_without, with_job}
use Rattle.job_sched.specs.Tables.{Table, job_at}
use Rattle.job_sched.specs.declared.job.Job.{Job}
use Rattle.uuo_calls.specs.declared.call.MonitorCall.{MonitorCall}
use Rattle.uuo_calls.specs.declared.call.CallOutcome.{CallOutcome}
use Rattle.uuo_calls.specs.declared.call.CallOutcome.TheVariants.{Done, Empty, Gone}
use Rattle.uuo_calls.specs.declared.service.Service.{Service}
use Rattle.uuo_calls.specs.declared.service.Service.TheVariants.{Reset, Core, Exit, Monrt, Logout, Mstime, Pjob, Sleep, Piini, Pisys, Debrk}
use Rattle.uuo_calls.specs.declared.service.Service.TheVariants.{Enq, Deq, Enqc}
use Rattle.uuo_calls.specs.declared.service.Service.TheVariants.{Datrd, Datwr, Input, Outchr, Outstr, Clrbfi, Clrbfo, Skpin, Unlisted}
use Rattle.uuo_calls.specs.CallState.{CallState, stopped_at}
use Rattle.uuo_calls.specs.CoreRow.{core_row}
use Rattle.uuo_calls.specs.InterruptRows.{piini_row, pisys_row, debrk_row}
use Rattle.uuo_calls.specs.JobRows.{reset_row, exit_row, monrt_row, mstime_row, pjob_row, sleep_row}
use Rattle.uuo_calls.specs.DataRows.{datrd_row, datwr_row}
use Rattle.uuo_calls.specs.LockRows.{enq_row, deq_row}
use Rattle.uuo_calls.specs.Services.{service_of}
use Rattle.uuo_calls.specs.StatusRow.{enqc_row}
use Rattle.uuo_calls.specs.TerminalRows.{outstr_row, outchr_row, input_row, clrbfi_row, clrbfo_row, skpin_row}

-- the table of calls: a row for each, by the job's number, the AC field and E
abbrev pub row_of : Service → ℕ → ℕ → ℕ → ℕ → CallState → CallState
row_of Reset time n ac e a = reset_row n a
row_of Core time n ac e a = core_row n ac a
row_of Exit time n ac e a = exit_row n a
row_of Monrt time n ac e a = monrt_row a
row_of Logout time n ac e a = record a { ending = Gone }
row_of Mstime time n ac e a = mstime_row time ac a
row_of Pjob time n ac e a = pjob_row n ac a
row_of Sleep time n ac e a = sleep_row ac a
row_of Piini time n ac e a = piini_row n ac a
row_of Pisys time n ac e a = pisys_row ac a
row_of Debrk time n ac e a = debrk_row n a
row_of Enq time n ac e a = enq_row n ac a
row_of Deq time n ac e a = deq_row n ac a
row_of Enqc time n ac e a = enqc_row n ac a
row_of Datrd time n ac e a = datrd_row ac a
row_of Datwr time n ac e a = datwr_row ac a
row_of (Input unit skips) time n ac e a = input_row unit skips n e a
row_of Outchr time n ac e a = outchr_row n e a
row_of Outstr time n ac e a = outstr_row n e a
row_of Clrbfi time n ac e a = clrbfi_row a
row_of Clrbfo time n ac e a = clrbfo_row a
row_of (Skpin unit) time n ac e a = skpin_row unit a
row_of Unlisted time n ac e a = record a { job = stopped_at a.job IllegalInstruction }

-- what calls read and change
pub record World : Type 0 where
  -- how many requests the lock table holds at most
  pub size : ℕ
  pub table : Table
  pub lines : List Rings
  pub requests : List Request
  pub cores : Cores
  -- the words that all jobs share
  pub shared : List ℕ

-- the world after a call, and how the call ends
pub record Performed : Type 0 where
  pub world : World
  pub outcome : CallOutcome

-- what a call of one job reads and changes, of a world
abbrev pub around : World → Job → CallState
around w j = record {
  size = w.size;
  job = j;
  jobs = w.table.jobs;
  lines = w.lines;
  requests = w.requests;
  cores = w.cores;
  shared = w.shared;
  ending = Done;
}

-- the world after a call of job n
abbrev pub with_around : World → ℕ → CallState → World
with_around w n a = record w {
  table = with_job w.table n (Some a.job);
  lines = a.lines;
  requests = a.requests;
  cores = a.cores;
  shared = a.shared;
}

-- the world without job n: its requests leave, its core is free, and where it was current nothing is left of the quantum
abbrev pub without_job : World → ℕ → World
without_job w n = record w {
  table = table_without w.table n;
  requests = released w.requests n;
  cores = given w.cores n;
}

-- the world after a call that ends so: the job is gone where it ends with Gone
abbrev pub left_by : CallOutcome → World → ℕ → World
left_by Gone w n = without_job w n
left_by Done w n = w
left_by Empty w n = w

abbrev pub ended : World → ℕ → CallState → Performed
ended w n a = record { world = left_by a.ending (with_around w n a) n; outcome = a.ending }

-- a call of job n, which is there
abbrev pub performed_by : World → ℕ → ℕ → Option Job → Service → ℕ → ℕ → Performed
performed_by w time n (Some j) service ac e = ended w n (row_of service time n ac e (around w j))
performed_by w time n None service ac e = record { world = w; outcome = Gone }

-- a call of job n at a time of day
abbrev pub performed : World → ℕ → ℕ → MonitorCall → Performed
performed w time n c = performed_by w time n (job_at w.table.jobs n) (service_of c.kind c.ac c.e) c.ac c.e
