-- What a job's next instruction comes to, and what a word of a job leads to, before anything is executed.
use Rattle.std.specs.Prelude.{ℕ, Option, Some, None, List}
use Rattle.std.specs.Result.{result_ok}
use Rattle.ka_cpu.specs.declared.limits.TheConstants.{MOST_EXECUTES}
use Rattle.ka_cpu.specs.Addresses.{address_in, target_of}
use Rattle.ka_cpu.specs.Exec.{exec, word_behind}
use Rattle.core_store.specs.Cores.{Cores, core_of}
use Rattle.lock_queue.specs.declared.request.Request.{Request}
use Rattle.job_sched.specs.Tables.{job_at}
use Rattle.job_sched.specs.declared.job.Job.{Job}
use Rattle.uuo_calls.specs.Asked.{ReadBlock}
use Rattle.uuo_calls.specs.Performed.{World}
use Rattle.uuo_calls.specs.declared.asked.Asked.{Asked}
use Rattle.uuo_calls.specs.declared.call.MonitorCall.{MonitorCall}
use Rattle.machine.specs.Told.{asked_by, block_before}
use Rattle.machine.specs.Turns.{executed}

-- the call that the next instruction of a job makes, if it makes one
abbrev pub call_of : ℕ → Cores → List Request → Job → Option MonitorCall
call_of n cores requests j = (executed n j cores requests (exec j.regs (core_of cores n))).call

abbrev pub call_by : World → ℕ → Option Job → Option MonitorCall
call_by w n (Some j) = call_of n w.cores w.requests j
call_by w n None = None

-- the call that job n's next instruction makes, if the job is there and it makes one
abbrev pub call_next : World → ℕ → Option MonitorCall
call_next w n = call_by w n (job_at w.table.jobs n)

-- what it asks of the lock queue by that, if it is a lock call
abbrev pub asked_next : World → ℕ → Option Asked
asked_next w n = asked_by w n (call_next w n)

-- the block that this call reads, or the block's first refusal, if it is a lock call that reads one
abbrev pub block_next : World → ℕ → ReadBlock
block_next w n = block_before w n (call_next w n)

-- the word that is executed where a job executes this one, unless the processor refuses an XCT
abbrev pub executed_by : Cores → ℕ → ℕ → Option Job → Option ℕ
executed_by cores n word (Some j) = result_ok (word_behind MOST_EXECUTES j.regs.ac (core_of cores n) word)
executed_by cores n word None = None

-- of job n; nothing where the job is not there
abbrev pub executed_in : World → ℕ → ℕ → Option ℕ
executed_in w n word = executed_by w.cores n word (job_at w.table.jobs n)

-- the effective address of a word of a job, unless the processor refuses it
abbrev pub address_by : Cores → ℕ → ℕ → Option Job → Option ℕ
address_by cores n word (Some j) = result_ok (address_in (target_of j.regs.ac (core_of cores n) word))
address_by cores n word None = None

-- of job n; nothing where the job is not there
abbrev pub effective_in : World → ℕ → ℕ → Option ℕ
effective_in w n word = address_by w.cores n word (job_at w.table.jobs n)
