-- A job's turn: an interrupt is delivered to it, or it executes one instruction (this project's profile).
use Rattle.std.specs.Prelude.{ℕ, ◌+◌, true, not, ◌&&◌, if◌then◌else◌, List, Option, Some, None, unwrap_or}
use Rattle.word36.specs.Words.{right_half}
use Rattle.ka_cpu.specs.Effects.{After}
use Rattle.ka_cpu.specs.Exec.{exec}
use Rattle.ka_state.specs.Registers.{pc_word}
use Rattle.ka_state.specs.Memory.{are_legal, word_at}
use Rattle.ka_state.specs.declared.outcome.Outcome.{Outcome}
use Rattle.ka_state.specs.declared.outcome.Outcome.TheVariants as outcome
use Rattle.ka_state.specs.declared.outcome.StopReason.TheVariants.{IllegalAddress}
use Rattle.ka_state.specs.declared.registers.Regs.{Regs}
use Rattle.core_store.specs.Cores.{Cores, core_of, with_core}
use Rattle.lock_queue.specs.declared.request.Request.{Request}
use Rattle.lock_queue.specs.Jobs.{pending, job_notified}
use Rattle.job_sched.specs.Jobs.{no_flags}
use Rattle.job_sched.specs.declared.job.Job.{Job}
use Rattle.job_sched.specs.declared.job.Interrupts.{Interrupts}
use Rattle.uuo_calls.specs.CallState.{stopped}
use Rattle.uuo_calls.specs.StatusRow.{Memory, stored_at, JobCore}
use Rattle.uuo_calls.specs.declared.call.MonitorCall.{MonitorCall}

-- the job, all core and all requests after a turn, and the call that is to be performed
pub record Turn : Type 0 where
  pub job : Job
  pub cores : Cores
  pub requests : List Request
  pub call : Option MonitorCall

-- a turn that makes no call
abbrev pub done : Job → Cores → List Request → Turn
done j cores requests = record { job = j; cores = cores; requests = requests; call = None }

-- a turn that ends with an outcome of the processor
abbrev pub concluded : Job → Cores → List Request → Outcome → Turn
concluded j cores requests outcome.Done = done j cores requests
concluded j cores requests (outcome.Stop reason) = done (stopped j reason) cores requests
concluded j cores requests (outcome.Call kind ac e) =
    record { job = j; cores = cores; requests = requests; call = Some (record { kind = kind; ac = ac; e = e }) }

-- one instruction is executed
abbrev pub executed : ℕ → Job → Cores → List Request → After → Turn
executed n j cores requests r = concluded (record j { regs = r.regs }) (with_core cores n r.core) requests r.outcome

-- `flags,,PC` goes to the vector's second word and `0,,id` to its fourth
abbrev pub noted : Regs → List ℕ → ℕ → ℕ → Memory
noted g core vector id =
    stored_at (stored_at (record { regs = g; core = core }) (vector + 1) (pc_word g.flags g.pc)) (vector + 3) id

-- the job goes on at the address in the vector's first word
abbrev pub interrupted : Job → Regs → ℕ → Job
interrupted j g pc =
    record j { regs = record g { pc = pc; flags = no_flags }; interrupts = record j.interrupts { in_progress = true } }

abbrev pub interrupted_at : Job → List ℕ → ℕ → ℕ → JobCore
interrupted_at j core vector id =
    let p = noted j.regs core vector id in
    record { job = interrupted j p.regs (right_half (unwrap_or (word_at j.regs.ac core vector) 0)); core = p.core }

-- the request's grant is notified from now on
abbrev pub notified_at : ℕ → Cores → List Request → JobCore → Turn
notified_at n cores requests o = done o.job (with_core cores n o.core) (job_notified requests n)

-- an interrupt is delivered, where the four words of the vector are legal; the job stops otherwise
abbrev pub delivered : ℕ → Job → Cores → List Request → ℕ → ℕ → Turn
delivered n j cores requests vector id =
    if are_legal (core_of cores n) vector 4
    then notified_at n cores requests (interrupted_at j (core_of cores n) vector id)
    else done (stopped j IllegalAddress) cores requests

-- a pair of values, if both are there
abbrev pub both : Option ℕ → Option ℕ → Option (ℕ × ℕ)
both (Some vector) (Some id) = Some (vector, id)
both (Some vector) None = None
both None id = None

-- the job's vector, and the id of the request whose grant is to be notified, where interrupts are on and none is in progress
abbrev pub due : Interrupts → Option ℕ → Option (ℕ × ℕ)
due i id = if i.on && not i.in_progress then both i.vector id else None

-- a turn, by the interrupt that is due, if one is
abbrev pub turned : ℕ → Job → Cores → List Request → Option (ℕ × ℕ) → Turn
turned n j cores requests (Some x) = delivered n j cores requests x.0 x.1
turned n j cores requests None = executed n j cores requests (exec j.regs (core_of cores n))

-- the turn of job n: an interrupt that is due is delivered; otherwise one instruction is executed
abbrev pub turn_of : ℕ → Job → Cores → List Request → Turn
turn_of n j cores requests = turned n j cores requests (due j.interrupts (pending requests n))
