-- What a debugger changes of a job: a word of its memory, its PC, or what an instruction changes that is typed. None is an event:
-- the promises on runs speak of events alone (this project's profile).
use Rattle.std.specs.Prelude.{ℕ, Bool, true, false, if◌then◌else◌, List, Option, Some, None}
use Rattle.ka_state.specs.Memory.{ac_with, core_with}
use Rattle.ka_state.specs.declared.outcome.Outcome.{Outcome}
use Rattle.ka_state.specs.declared.outcome.Outcome.TheVariants as outcome
use Rattle.ka_state.specs.declared.outcome.StopReason.{StopReason}
use Rattle.ka_state.specs.declared.outcome.StopReason.TheVariants.{IllegalAddress, IllegalInstruction, Halt, Pushdown, AddressChain}
use Rattle.ka_cpu.specs.Effects.{After}
use Rattle.ka_cpu.specs.Exec.{exec_word}
use Rattle.core_store.specs.Cores.{core_of, with_core}
use Rattle.job_sched.specs.Changes.{with_job, with_change}
use Rattle.job_sched.specs.Tables.{job_at}
use Rattle.job_sched.specs.declared.job.Job.{Job}
use Rattle.uuo_calls.specs.CallState.{put_back, with_pc}
use Rattle.uuo_calls.specs.Performed.{World}
use Rattle.machine.specs.declared.event.Answer.{Answer}
use Rattle.machine.specs.declared.event.Answer.TheVariants.{Done}
use Rattle.machine.specs.Machine.{S, Made, started}

-- a job with another word in the register of an address; from 20 octal on no address is a register's
abbrev pub with_register : Job → ℕ → ℕ → Job
with_register j a word = record j { regs = record j.regs { ac = ac_with j.regs.ac a word } }

abbrev pub with_word_of : World → ℕ → ℕ → ℕ → Option Job → World
with_word_of w n a word (Some j) = record w {
  table = with_job w.table n (Some (with_register j a word));
  cores = with_core w.cores n (core_with (core_of w.cores n) a word);
}
with_word_of w n a word None = w

-- the world with another word at an address of job n: in a register below 20 octal, and in core from there on; nothing
-- changes where the job is not there or the address is not legal, that is where `word_in` has no word
abbrev pub with_word : World → ℕ → ℕ → ℕ → World
with_word w n a word = with_word_of w n a word (job_at w.table.jobs n)

-- a word is stored at an address of job n
abbrev pub deposited : S → ℕ → ℕ → ℕ → S
deposited s n a word = record s { world = with_word s.world n a word }

-- the PC of job n is set to an address, if the job is there
abbrev pub placed : S → ℕ → ℕ → S
placed s n a = record s { world = record s.world { table = with_change s.world.table n (λ j. with_pc j a) } }

-- whether an event was done
abbrev pub is_done : Answer → Bool
is_done Done = true
is_done _ = false

-- job n starts, and where that is done its PC is set to an address; the answer is that of the start
abbrev pub started_at : S → ℕ → ℕ → Made
started_at s n a = let m = started s n in record m { state = if is_done m.answer then placed m.state n a else m.state }

-- an instruction that is typed is executed as if it stood before the one at the job's PC: that one comes next, unless the typed one
-- skips it or jumps
abbrev pub by_hand : Job → List ℕ → ℕ → After
by_hand j core word = exec_word (put_back j).regs core word

-- whether the processor completes an instruction: at a pushdown overflow it does; at the other stops it does not, and core
-- stays as it was
abbrev pub completes : StopReason → Bool
completes IllegalAddress = false
completes IllegalInstruction = false
completes Halt = false
completes Pushdown = true
completes AddressChain = false

-- a call of the monitor is not made
abbrev pub is_complete : Outcome → Bool
is_complete outcome.Done = true
is_complete (outcome.Call kind ac e) = false
is_complete (outcome.Stop reason) = completes reason

-- core is as the instruction leaves it, and so are registers, flags and PC where it is complete
abbrev pub with_result : World → ℕ → Job → After → World
with_result w n j r = record w {
  table = with_job w.table n (Some (record j { regs = if is_complete r.outcome then r.regs else j.regs }));
  cores = with_core w.cores n r.core;
}

abbrev pub with_executed : World → ℕ → ℕ → Option Job → World
with_executed w n word (Some j) = with_result w n j (by_hand j (core_of w.cores n) word)
with_executed w n word None = w

-- an instruction is executed for job n by hand, if the job is there
abbrev pub executed_by_hand : S → ℕ → ℕ → S
executed_by_hand s n word = record s { world = with_executed s.world n word (job_at s.world.table.jobs n) }

abbrev pub end_of : World → ℕ → ℕ → Option Job → Option Outcome
end_of w n word (Some j) = Some (by_hand j (core_of w.cores n) word).outcome
end_of w n word None = None

-- how the processor ends it; none where the job is not there
abbrev pub end_by_hand : S → ℕ → ℕ → Option Outcome
end_by_hand s n word = end_of s.world n word (job_at s.world.table.jobs n)

-- whether an instruction was completed; none was where the job is not there
abbrev pub is_done_by_hand : Option Outcome → Bool
is_done_by_hand (Some end) = is_complete end
is_done_by_hand None = false
