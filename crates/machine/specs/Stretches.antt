-- Some rounds of one job, made at once: it only computes in all of them but the last (this project's profile).
use Rattle.std.specs.Prelude.{ℕ, ◌-◌, Bool, true, false, List, Option, Some, None}
use Rattle.ka_cpu.specs.Runs.{Ran, ran}
use Rattle.core_store.specs.Cores.{Cores, core_of}
use Rattle.lock_queue.specs.declared.request.Request.{Request}
use Rattle.lock_queue.specs.Jobs.{pending}
use Rattle.job_sched.specs.Changes.{spent}
use Rattle.job_sched.specs.Tables.{Table}
use Rattle.job_sched.specs.Times.{later}
use Rattle.job_sched.specs.declared.job.Job.{Job}
use Rattle.uuo_calls.specs.Performed.{World}
use Rattle.machine.specs.Machine.{S, awake, called, ticked, with_turn}
use Rattle.machine.specs.Turns.{Turn, delivered, due, executed}

-- a job's turn that goes on over some rounds, and their number
pub record Stretch : Type 0 where
  pub turn : Turn
  pub rounds : ℕ

-- a turn of some instructions, one a round
abbrev pub stretch_by : ℕ → Job → Cores → List Request → Ran → Stretch
stretch_by n j cores requests r = record { turn = executed n j cores requests r.after; rounds = r.steps }

-- an interrupt that is due is delivered; otherwise at most k instructions are executed, until one stops or calls
abbrev pub stretched : ℕ → ℕ → Job → Cores → List Request → Option (ℕ × ℕ) → Stretch
stretched n k j cores requests (Some x) = record { turn = delivered n j cores requests x.0 x.1; rounds = 1 }
stretched n k j cores requests None = stretch_by n j cores requests (ran k j.regs (core_of cores n))

abbrev pub stretch_of : ℕ → ℕ → Job → Cores → List Request → Stretch
stretch_of n k j cores requests = stretched n k j cores requests (due j.interrupts (pending requests n))

-- the table after so many rounds of the current job, with ticks or without, in which nobody sleeps and no limit counts
abbrev pub table_after : Table → ℕ → Bool → ℕ → Table
table_after t quantum true k = spent t quantum k
table_after t quantum false k = t

-- the time of day then
abbrev pub time_after : ℕ → Bool → ℕ → ℕ
time_after time true k = later time k
time_after time false k = time

-- the world and the time before the last tick of so many rounds, and their number
pub record Stretched : Type 0 where
  pub world : World
  pub time : ℕ
  pub rounds : ℕ

-- the world then
abbrev pub passed : World → ℕ → Bool → ℕ → World
passed w quantum ticking k = record w { table = table_after w.table quantum ticking k }

-- a turn ends after k ticks, and the call that it makes is performed
abbrev pub ended : World → ℕ → ℕ → ℕ → Bool → ℕ → Turn → World
ended w time quantum n ticking k t = called (passed (with_turn w n t) quantum ticking k) (time_after time ticking k) n t.call

abbrev pub run_out : World → ℕ → ℕ → ℕ → Bool → Stretch → Stretched
run_out w time quantum n ticking x = record {
  world = ended w time quantum n ticking (x.rounds - 1) x.turn;
  time = time_after time ticking (x.rounds - 1);
  rounds = x.rounds;
}

-- job n runs for at most k rounds, and waits for nothing any more
abbrev pub runs_on : World → ℕ → ℕ → ℕ → ℕ → Bool → Option Job → Stretched
runs_on w time quantum n k ticking (Some j) = run_out w time quantum n ticking (stretch_of n k (awake j) w.cores w.requests)
runs_on w time quantum n k ticking None = record { world = w; time = time; rounds = 1 }

-- a state after a tick, where `ticking`; the same state otherwise
abbrev pub ticked_if : Bool → S → S
ticked_if true s = (ticked s).state
ticked_if false s = s
