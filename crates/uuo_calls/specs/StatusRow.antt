-- ENQC. (TOPS-10 Monitor Calls Manual, in this project's profile; functions 1 and 2 are the profile's own).
use Rattle.std.specs.Prelude.{ℕ, ◌+◌, ◌*◌, ◌%◌, ◌==◌, if◌then◌else◌, List, [], ◌∷◌, length, Option, Result, Ok, Err}
use Rattle.std.specs.List.{flat_map}
use Rattle.word36.specs.Words.{left_half, right_half}
use Rattle.core_store.specs.Cores.{Cores, core_of, with_core}
use Rattle.ka_state.specs.Memory.{ac_with, are_legal, core_with}
use Rattle.ka_state.specs.declared.registers.Regs.{Regs}
use Rattle.lock_queue.specs.declared.refusal.Refusal.{Refusal}
use Rattle.lock_queue.specs.declared.refusal.Refusal.TheVariants.{NoFunction, BadBlock}
use Rattle.lock_queue.specs.declared.request.Request.{Request}
use Rattle.lock_queue.specs.declared.want.Want.{Want}
use Rattle.lock_queue.specs.Refusals.{code_of}
use Rattle.lock_queue.specs.StatusWords.{status_of, words_of}
use Rattle.call_block.specs.declared.block.Block.{Block}
use Rattle.lock_queue.specs.declared.terms.BlockUse.TheVariants.{Named}
use Rattle.call_block.specs.Blocks.{block_at}
use Rattle.job_sched.specs.declared.job.Job.{Job}
use Rattle.uuo_calls.specs.CallState.{CallState, ac_of, skipping, refusing}
use Rattle.uuo_calls.specs.CoreRow.{JobCores}
use Rattle.uuo_calls.specs.QuotaRows.{quota_told, quota_lowered}

-- a job's memory: its registers and its core
pub record Memory : Type 0 where
  pub regs : Regs
  pub core : List ℕ

-- the memory after a word is stored at an address
abbrev pub stored_at : Memory → ℕ → ℕ → Memory
stored_at p a w = record { regs = record p.regs { ac = ac_with p.regs.ac a w }; core = core_with p.core a w }

-- the memory after words are stored one after the other, from an address on
abbrev pub stored : Memory → ℕ → List ℕ → Memory
stored p a [] = p
stored p a (w ∷ ws) = stored (stored_at p a w) (a + 1) ws

-- the status of some locks, three words each
abbrev pub status_words : List Request → ℕ → List Want → List ℕ
status_words requests n wants = flat_map (λ w. words_of (status_of requests w.key n)) wants

-- the wants that ENQC. 0 names: its AC is `0,,address`; any other function is refused
abbrev pub wants_in : Result Block Refusal → Result (List Want) Refusal
wants_in (Ok block) = Ok block.wants.items
wants_in (Err refusal) = Err refusal

abbrev pub enqc_asks : List ℕ → List ℕ → ℕ → ℕ → Result (List Want) Refusal
enqc_asks regs core n w = if left_half w == 0 then wants_in (block_at regs core (right_half w) n Named) else Err NoFunction

-- the addresses of the answer have to be legal
abbrev pub with_room : List ℕ → ℕ → Result (List Want) Refusal → Result (List Want) Refusal
with_room core to (Ok wants) = if are_legal core to (3 * length wants) then Ok wants else Err BadBlock
with_room core to (Err refusal) = Err refusal

-- a job and its core
pub record JobCore : Type 0 where
  pub job : Job
  pub core : List ℕ

-- the answer is stored, and the job skips, or the call is refused; all words are computed before the first is stored
abbrev pub stored_or_refused : List Request → ℕ → ℕ → ℕ → Job → List ℕ → Result (List Want) Refusal → JobCore
stored_or_refused requests n ac to j core (Err refusal) = record { job = refusing j ac (code_of refusal); core = core }
stored_or_refused requests n ac to j core (Ok wants) =
    let p = stored (record { regs = j.regs; core = core }) to (status_words requests n wants) in
    record { job = skipping (record j { regs = p.regs }); core = p.core }

-- the answer goes to the address in the right half of AC+1
abbrev pub answers_at : Job → ℕ → ℕ
answers_at j ac = right_half (ac_of j ((ac + 1) % 16))

-- ENQC. 0, and the refusal of what is no function of ENQC.
abbrev pub status_told : List Request → ℕ → ℕ → Job → List ℕ → JobCore
status_told requests n ac j core =
    stored_or_refused requests n ac (answers_at j ac) j core
    (with_room core (answers_at j ac) (enqc_asks j.regs.ac core n (ac_of j ac)))

-- the core of all jobs, with this core of job n
abbrev pub with_job_core : Cores → ℕ → JobCore → JobCores
with_job_core cores n o = record { job = o.job; cores = with_core cores n o.core }

-- ENQC., by its function in the left half of AC: functions 1 and 2 read no block and store nothing
abbrev pub enqc : List (Option Job) → List Request → ℕ → ℕ → Job → Cores → JobCores
enqc jobs requests n ac j cores =
    if left_half (ac_of j ac) == 1 then record { job = quota_told jobs requests n ac j; cores = cores } else
    if left_half (ac_of j ac) == 2 then record { job = quota_lowered ac j; cores = cores } else
    with_job_core cores n (status_told requests n ac j (core_of cores n))

abbrev pub enqc_row : ℕ → ℕ → CallState → CallState
enqc_row n ac a =
    let o = enqc a.jobs a.requests n ac a.job a.cores in
    record a { job = o.job; cores = o.cores }
