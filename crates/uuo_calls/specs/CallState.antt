-- What a call of one job reads and changes, and the words of its row (this project's profile).
use Rattle.std.specs.Prelude.{ℕ, ◌+◌, ◌%◌, ◌^◌, List, Option, Some, slice_index, slice_set}
use Rattle.core_store.specs.Cores.{Cores}
use Rattle.ka_state.specs.declared.outcome.StopReason.{StopReason}
use Rattle.lock_queue.specs.declared.request.Request.{Request}
use Rattle.tty_lines.specs.Rings.{Rings}
use Rattle.job_sched.specs.declared.job.Job.{Job}
use Rattle.job_sched.specs.declared.job.Stop.TheVariants.{Fault}
use Rattle.job_sched.specs.declared.job.Wait.{Wait}
use Rattle.uuo_calls.specs.declared.call.CallOutcome.{CallOutcome}

-- how many requests the lock table holds at most, the job, all jobs as before the call, the lines, the requests, the core of all
-- jobs, the shared words, and how the call ends
pub record CallState : Type 0 where
  pub size : ℕ
  pub job : Job
  pub jobs : List (Option Job)
  pub lines : List Rings
  pub requests : List Request
  pub cores : Cores
  pub shared : List ℕ
  pub ending : CallOutcome

-- the word in the call's AC
abbrev pub ac_of : Job → ℕ → ℕ
ac_of j ac = slice_index j.regs.ac ac

-- the job with another word in AC
abbrev pub with_ac : Job → ℕ → ℕ → Job
with_ac j ac w = record j { regs = record j.regs { ac = slice_set j.regs.ac ac w } }

-- the job with another PC
abbrev pub with_pc : Job → ℕ → Job
with_pc j pc = record j { regs = record j.regs { pc = pc } }

-- the skip return
abbrev pub skipping : Job → Job
skipping j = with_pc j ((j.regs.pc + 1) % 2 ^ 18)

-- the PC is that of the call again
abbrev pub put_back : Job → Job
put_back j = with_pc j ((j.regs.pc + 0o777777) % 2 ^ 18)

-- the call is refused: `0,,code` in AC, and no skip
abbrev pub refusing : Job → ℕ → ℕ → Job
refusing j ac code = with_ac j ac code

-- the job waits
abbrev pub waiting : Job → Wait → Job
waiting j wait = record j { wait = wait }

-- the job stops for a fault
abbrev pub stopped : Job → StopReason → Job
stopped j reason = record j { stop = Some (Fault reason) }

-- the job stops at the call
abbrev pub stopped_at : Job → StopReason → Job
stopped_at j reason = stopped (put_back j) reason
