-- PIINI., PISYS. and DEBRK. (TOPS-10 Monitor Calls Manual, in this project's profile).
use Rattle.std.specs.Prelude.{ℕ, ◌+◌, ◌==◌, nat_le, Bool, false, is_none, if◌then◌else◌, List, Option, Some, None}
use Rattle.word36.specs.Words.{right_half}
use Rattle.core_store.specs.Cores.{core_of}
use Rattle.ka_state.specs.Registers.{flags_of}
use Rattle.ka_state.specs.Memory.{are_legal, word_below}
use Rattle.ka_state.specs.declared.outcome.StopReason.TheVariants.{IllegalAddress}
use Rattle.job_sched.specs.declared.job.Interrupts.{Interrupts}
use Rattle.job_sched.specs.declared.job.Job.{Job}
use Rattle.uuo_calls.specs.CallState.{CallState, ac_of, skipping, refusing, stopped_at}

-- the job has its vector at an address; interrupts are off, and none is in progress
abbrev pub armed_at : Job → ℕ → Job
armed_at j a = record j { interrupts = record { vector = Some a; on = false; in_progress = false } }

-- a vector has four words, at legal addresses; the code is 1 otherwise
abbrev pub piini : List ℕ → ℕ → Job → Job
piini core ac j =
    if are_legal core (right_half (ac_of j ac)) 4
    then skipping (armed_at j (right_half (ac_of j ac)))
    else refusing j ac 1

abbrev pub piini_row : ℕ → ℕ → CallState → CallState
piini_row n ac a = record a { job = piini (core_of a.cores n) ac a.job }

abbrev pub switched : Job → Bool → Job
switched j on = record j { interrupts = record j.interrupts { on = on } }

-- AC is 0 for off and 1 for on; the code is 1 for anything else, and 2 where no vector is set
abbrev pub pisys : ℕ → Job → Job
pisys ac j =
    if nat_le 2 (ac_of j ac) then refusing j ac 1 else
    if is_none j.interrupts.vector then refusing j ac 2 else
    skipping (switched j (ac_of j ac == 1))

abbrev pub pisys_row : ℕ → CallState → CallState
pisys_row ac a = record a { job = pisys ac a.job }

-- the job goes on with the flags and the PC that the delivery stored, and the interrupt is not in progress any more
abbrev pub dismissed : Job → Option ℕ → Job
dismissed j None = stopped_at j IllegalAddress
dismissed j (Some w) = record j {
  regs = record j.regs { pc = right_half w; flags = flags_of w };
  interrupts = record j.interrupts { in_progress = false };
}

-- the vector of the interrupt that is in progress
abbrev pub vector_in_progress : Interrupts → Option ℕ
vector_in_progress i = if i.in_progress then i.vector else None

-- that word is the vector's second; where no interrupt is in progress the call does nothing
abbrev pub dismissed_at : List ℕ → Job → Option ℕ → Job
dismissed_at core j (Some vector) = dismissed j (word_below j.regs.ac core (vector + 1))
dismissed_at core j None = j

abbrev pub debrk : List ℕ → Job → Job
debrk core j = dismissed_at core j (vector_in_progress j.interrupts)

abbrev pub debrk_row : ℕ → CallState → CallState
debrk_row n a = record a { job = debrk (core_of a.cores n) a.job }
