-- What a lock call asks, and what it is answered (ENQ/DEQ of the TOPS-10 Monitor Calls Manual, in this project's profile).
use Rattle.std.specs.Prelude.{ℕ, ◌==◌, nat_le, Bool, is_some, if◌then◌else◌, List, Option, Some, None, Result, Ok, Err}
use Rattle.word36.specs.Words.{left_half, right_half}
use Rattle.core_store.specs.Cores.{Cores, core_of}
use Rattle.lock_queue.specs.declared.call.LockReply.{LockReply}
use Rattle.lock_queue.specs.declared.call.LockReply.TheVariants.{Done, Refused}
use Rattle.lock_queue.specs.declared.refusal.Refusal.{Refusal}
use Rattle.lock_queue.specs.declared.refusal.Refusal.TheVariants.{NoSuchQuota}
use Rattle.lock_queue.specs.declared.terms.BlockUse.{BlockUse}
use Rattle.lock_queue.specs.declared.terms.BlockUse.TheVariants.{Blocking, Full, Named}
use Rattle.lock_queue.specs.declared.want.Want.{Want}
use Rattle.arrayvec.specs.ArrayVec.{ArrayVec}
use Rattle.call_block.specs.declared.block.Block.{Block}
use Rattle.call_block.specs.declared.block.BlockHead.{BlockHead}
use Rattle.call_block.specs.Blocks.{block_at, read_as}
use Rattle.job_sched.specs.Tables.{job_at}
use Rattle.job_sched.specs.declared.job.Job.{Job}
use Rattle.uuo_calls.specs.CallState.{CallState, ac_of}
use Rattle.uuo_calls.specs.LockRows.{asked, deq_asks, enq_asks}
use Rattle.uuo_calls.specs.Performed.{World, around}
use Rattle.uuo_calls.specs.QuotaRows.{named_job, quota_at}
use Rattle.uuo_calls.specs.Services.{service_of}
use Rattle.uuo_calls.specs.StatusRow.{answers_at, enqc_asks, with_room}
use Rattle.uuo_calls.specs.declared.asked.Asked.{Asked}
use Rattle.uuo_calls.specs.declared.asked.LockService.{LockService}
use Rattle.uuo_calls.specs.declared.asked.LockService.TheVariants as lock
use Rattle.uuo_calls.specs.declared.call.MonitorCall.{MonitorCall}
use Rattle.uuo_calls.specs.declared.service.Service.{Service}
use Rattle.uuo_calls.specs.declared.service.Service.TheVariants.{Enq, Deq, Enqc}

-- ---- what is asked

-- which lock call a call is, if it is one
abbrev pub lock_service : Service → Option LockService
lock_service Enq = Some lock.Enq
lock_service Deq = Some lock.Deq
lock_service Enqc = Some lock.Enqc
lock_service _ = None

-- what the block of a lock call with this function is there for, if the call reads a block
abbrev pub block_use : LockService → ℕ → Option BlockUse
block_use lock.Enq function =
    if function == 0 then Some Blocking else
    if nat_le function 2 then Some Full else
    if function == 3 then Some Named else None
block_use lock.Deq function = if function == 0 then Some Named else None
block_use lock.Enqc function = if function == 0 then Some Named else None

-- the block that a call reads, or the block's first refusal, if it reads one
abbrev pub ReadBlock : Type 0
ReadBlock = Option (Result Block Refusal)

-- the block at the address in the right half of a word, or its first refusal
abbrev pub block_read : List ℕ → List ℕ → ℕ → ℕ → Option BlockUse → ReadBlock
block_read regs core n w (Some used) = Some (block_at regs core (right_half w) n used)
block_read regs core n w None = None

-- what a job asks by a lock call with this AC field: the word in its AC
abbrev pub asked_with : ℕ → Job → LockService → Asked
asked_with ac j service = record { service = service; ac = ac; word = ac_of j ac }

abbrev pub asked_if : ℕ → Job → Option LockService → Option Asked
asked_if ac j (Some service) = Some (asked_with ac j service)
asked_if ac j None = None

abbrev pub asked_in : MonitorCall → Option Job → Option Asked
asked_in c (Some j) = asked_if c.ac j (lock_service (service_of c.kind c.ac c.e))
asked_in c None = None

-- what job n asks of the lock queue by a call that it is about to make, if it is a lock call
abbrev pub asked_of : World → ℕ → MonitorCall → Option Asked
asked_of w n c = asked_in c (job_at w.table.jobs n)

-- the block that a lock call of job n reads, or its first refusal, if it reads one
abbrev pub block_with : ℕ → ℕ → Job → List ℕ → LockService → ReadBlock
block_with n ac j core service = block_read j.regs.ac core n (ac_of j ac) (block_use service (left_half (ac_of j ac)))

abbrev pub block_if : ℕ → ℕ → Job → List ℕ → Option LockService → ReadBlock
block_if n ac j core (Some service) = block_with n ac j core service
block_if n ac j core None = None

abbrev pub block_in : ℕ → MonitorCall → Cores → Option Job → ReadBlock
block_in n c cores (Some j) = block_if n c.ac j (core_of cores n) (lock_service (service_of c.kind c.ac c.e))
block_in n c cores None = None

abbrev pub block_of : World → ℕ → MonitorCall → ReadBlock
block_of w n c = block_in n c w.cores (job_at w.table.jobs n)

-- the block that stands in a room: a head, or a refusal, and the wants beside it
abbrev pub block_held : Option (Result BlockHead Refusal) → ArrayVec Want → ReadBlock
block_held (Some head) wants = Some (read_as head wants)
block_held None wants = None

-- ---- what is answered

abbrev pub done_if : Bool → LockReply
done_if b = if b then Done else Refused NoSuchQuota

-- of ENQC. 0, and of what is no function of ENQC.
abbrev pub status_reply : Result (List Want) Refusal → LockReply
status_reply (Ok wants) = Done
status_reply (Err refusal) = Refused refusal

-- of ENQC., by its function in the left half of AC
abbrev pub enqc_reply : List (Option Job) → ℕ → ℕ → Job → List ℕ → LockReply
enqc_reply jobs n ac j core =
    if left_half (ac_of j ac) == 1 then done_if (is_some (quota_at jobs (named_job n (right_half (ac_of j ac))))) else
    if left_half (ac_of j ac) == 2 then done_if (nat_le (right_half (ac_of j ac)) j.quota) else
    status_reply (with_room core (answers_at j ac) (enqc_asks j.regs.ac core n (ac_of j ac)))

-- the answer of a lock call in its row: the row of ENQ. and of DEQ. goes on with this very answer
abbrev pub reply_in : Service → ℕ → ℕ → CallState → Option LockReply
reply_in Enq n ac a =
    Some (asked a.size a.requests n
    (enq_asks a.job.regs.ac (core_of a.cores n) n (ac_of a.job ac) (is_some a.job.interrupts.vector) a.job.quota)).reply
reply_in Deq n ac a = Some (asked a.size a.requests n (deq_asks a.job.regs.ac (core_of a.cores n) n (ac_of a.job ac))).reply
reply_in Enqc n ac a = Some (enqc_reply a.jobs n ac a.job (core_of a.cores n))
reply_in _ n ac a = None

abbrev pub reply_by : World → ℕ → Option Job → MonitorCall → Option LockReply
reply_by w n (Some j) c = reply_in (service_of c.kind c.ac c.e) n c.ac (around w j)
reply_by w n None c = None

-- what a call of job n is answered, if it is a lock call
abbrev pub reply_to : World → ℕ → MonitorCall → Option LockReply
reply_to w n c = reply_by w n (job_at w.table.jobs n) c
