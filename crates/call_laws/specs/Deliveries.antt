-- The delivery of an interrupt, and its end by DEBRK. (PIINI. of the TOPS-10 Monitor Calls Manual, in this project's profile).
use Rattle.std.specs.Prelude.{ℕ, ◌≡◌, ◌+◌, ◌^◌, ◌<◌, true, false, List, length, Some}
use Rattle.core_store.specs.Cores.{Cores, core_of}
use Rattle.ka_state.specs.Memory.{are_legal, word_below}
use Rattle.lock_queue.specs.declared.request.Request.{Request}
use Rattle.job_sched.specs.Tables.{job_at}
use Rattle.job_sched.specs.declared.job.Job.{Job}
use Rattle.uuo_calls.specs.Laws.{service_in}
use Rattle.uuo_calls.specs.Performed.{World, performed}
use Rattle.uuo_calls.specs.declared.call.MonitorCall.{MonitorCall}
use Rattle.uuo_calls.specs.declared.service.Service.TheVariants.{Debrk}
use Rattle.machine.specs.Turns.{delivered}

-- job n goes on where job j was interrupted: it has the PC and the flags of j, and no interrupt is in progress
pub record GoesBack (w : World) (n : ℕ) (j : Job) : Type 0 where
  pub job : Job
  pub there : job_at w.table.jobs n ≡ Some job
  pub pc : job.regs.pc ≡ j.regs.pc
  pub flags : job.regs.flags ≡ j.regs.flags
  pub over : job.interrupts.in_progress ≡ false

-- DEBRK. after a delivery gives back the PC and the flags. An interrupt is delivered to job n, whose vector is legal. Later, whatever
-- the job did in between, the interrupt is still in progress with the same vector, and the vector's second word is as the delivery
-- left it. Then DEBRK. goes back to where the job was.
abbrev pub DebrkGoesBack : Type 0
DebrkGoesBack =
    (w : World) (time n vector id : ℕ) (c : MonitorCall) (j k : Job) (cores : Cores) (requests : List Request)
    → are_legal (core_of cores n) vector 4 ≡ true → length j.regs.ac ≡ 16 → n < length cores.cores → j.regs.pc < 2 ^ 18
    → job_at w.table.jobs n ≡ Some k → n < length w.table.jobs → service_in c ≡ Debrk
    → k.interrupts.in_progress ≡ true → k.interrupts.vector ≡ Some vector
    → word_below k.regs.ac (core_of w.cores n) (vector + 1)
    ≡ word_below (delivered n j cores requests vector id).job.regs.ac (core_of (delivered n j cores requests vector id).cores n)
    (vector + 1)
    → GoesBack (performed w time n c).world n j
