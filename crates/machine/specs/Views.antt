-- What can be seen of a job (this project's profile).
use Rattle.std.specs.Prelude.{ℕ, if◌then◌else◌, List, Option, Some, None}
use Rattle.ka_state.specs.Memory.{word_at}
use Rattle.core_store.specs.Cores.{core_of, blocks_of}
use Rattle.lock_queue.specs.declared.request.Request.{Request}
use Rattle.tty_lines.specs.Rings.{Rings}
use Rattle.job_sched.specs.Ready.{holds}
use Rattle.job_sched.specs.Tables.{job_at}
use Rattle.job_sched.specs.declared.job.Job.{Job}
use Rattle.job_sched.specs.declared.job.Wait.{Wait}
use Rattle.job_sched.specs.declared.job.Wait.TheVariants.{None as Nothing}
use Rattle.uuo_calls.specs.Performed.{World}
use Rattle.machine.specs.declared.view.JobView.{JobView}

-- what job n waits for, and nothing where its wait holds no longer
abbrev pub held_wait : List Rings → List Request → ℕ → Job → Wait
held_wait lines requests n j = if holds lines requests n j.line j.wait then j.wait else Nothing

abbrev pub view_of : World → ℕ → Option Job → Option JobView
view_of w n (Some j) = Some (record {
  line = j.line;
  blocks = blocks_of w.cores n;
  pc = j.regs.pc;
  flags = j.regs.flags;
  stop = j.stop;
  wait = held_wait w.lines w.requests n j;
})
view_of w n None = None

-- what can be seen of job n, if it is there
abbrev pub job_view : World → ℕ → Option JobView
job_view w n = view_of w n (job_at w.table.jobs n)

abbrev pub place_of : World → ℕ → ℕ → Option Job → Option ℕ
place_of w n a (Some j) = word_at j.regs.ac (core_of w.cores n) a
place_of w n a None = None

-- the word at an address of job n: a register below 20 octal, and core from there on
abbrev pub word_in : World → ℕ → ℕ → Option ℕ
word_in w n a = place_of w n a (job_at w.table.jobs n)
