-- Changes of one job (this project's profile).
use Rattle.std.specs.Prelude.{ℕ, ◌-◌, ◌==◌, ◌&&◌, nat_lt, Bool, true, false, is_none, is_some, not, if◌then◌else◌, Some, None}
use Rattle.ka_state.specs.declared.registers.Flags.{Flags}
use Rattle.ka_state.specs.declared.registers.Regs.{Regs}
use Rattle.job_sched.specs.declared.job.Interrupts.{Interrupts}
use Rattle.job_sched.specs.declared.job.Job.{Job}
use Rattle.job_sched.specs.declared.job.Stop.{Stop}
use Rattle.job_sched.specs.declared.job.Stop.TheVariants.{Loaded, Typed}
use Rattle.job_sched.specs.declared.job.Wait.{Wait}
use Rattle.job_sched.specs.declared.job.Wait.TheVariants.{None as Nothing, Sleep, Queue}

-- no vector is set
abbrev pub no_interrupts : Interrupts
no_interrupts = record { vector = None; on = false; in_progress = false }

-- no flag but User, which is always set
abbrev pub no_flags : Flags
no_flags = record { overflow = false; carry0 = false; carry1 = false; no_divide = false }

abbrev pub halted : Job → Stop → Job
halted j stop = record j { stop = Some stop }

-- a new job, which is loaded
abbrev pub new_job : ℕ → Regs → ℕ → ℕ → Job
new_job line regs start quota = record {
  line = line;
  regs = regs;
  start = start;
  stop = Some Loaded;
  wait = Nothing;
  interrupts = no_interrupts;
  quota = quota;
}

-- a job that starts: it goes on at its start address, waits for nothing and has no vector
abbrev pub started_job : Job → Job
started_job j = record j {
  regs = record j.regs { pc = j.start; flags = no_flags };
  stop = None;
  wait = Nothing;
  interrupts = no_interrupts;
}

-- a job that goes on: its stop ends, and its program counter and its wait stay
abbrev pub going_on : Job → Job
going_on j = record j { stop = None }

-- a job that starts, or goes on
abbrev pub resumed_job : Bool → Job → Job
resumed_job true = started_job
resumed_job false = going_on

-- CTRL-C at a line stops the job there, unless it is stopped already
abbrev pub broken_job : ℕ → Job → Job
broken_job line j = if (j.line == line) && is_none j.stop then halted j Typed else j

-- a tick makes a sleep one tick shorter
abbrev pub ticked_wait : Wait → Wait
ticked_wait (Sleep ticks) = Sleep (ticks - 1)
ticked_wait wait = wait

abbrev pub ticked_job : Job → Job
ticked_job j = record j { wait = ticked_wait j.wait }

-- whether ticks count for a wait: it is a sleep with ticks left, or a wait for a grant that has a limit
abbrev pub is_sleep : Wait → Bool
is_sleep (Sleep ticks) = nat_lt 0 ticks
is_sleep (Queue limit ac) = nat_lt 0 limit
is_sleep _ = false

-- whether an interrupt can be delivered: interrupts are on, none is in progress, and there is a vector
abbrev pub takes_interrupts : Interrupts → Bool
takes_interrupts i = i.on && not i.in_progress && is_some i.vector

abbrev pub is_asleep : Job → Bool
is_asleep j = is_sleep j.wait
