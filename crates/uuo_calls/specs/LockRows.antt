-- ENQ. and DEQ. (TOPS-10 Monitor Calls Manual, in this project's profile).
use Rattle.std.specs.Prelude.{ℕ, ◌==◌, nat_le, Bool, IsTrue, is_some, if◌then◌else◌, List, length, Result, Ok, Err}
use Rattle.std.specs.List.{list_all}
use Rattle.arrayvec.specs.ArrayVec.{ArrayVec}
use Rattle.word36.specs.Words.{left_half, right_half}
use Rattle.core_store.specs.Cores.{core_of}
use Rattle.lock_queue.specs.declared.call.LockCall.{LockCall}
use Rattle.lock_queue.specs.declared.call.LockCall.TheVariants.{Enqueue, Modify, DequeueNamed, DequeueAll, DequeueId}
use Rattle.lock_queue.specs.declared.call.LockReply.{LockReply}
use Rattle.lock_queue.specs.declared.call.LockReply.TheVariants.{Granted, Queued, Done, Refused}
use Rattle.lock_queue.specs.declared.refusal.Refusal.{Refusal}
use Rattle.lock_queue.specs.declared.refusal.Refusal.TheVariants.{NoFunction}
use Rattle.lock_queue.specs.declared.request.EnqueueKind.{EnqueueKind}
use Rattle.lock_queue.specs.declared.request.EnqueueKind.TheVariants.{Blocking, AtOnce, Interrupt}
use Rattle.lock_queue.specs.declared.request.Request.{Request}
use Rattle.lock_queue.specs.declared.want.Want.{Want}
use Rattle.lock_queue.specs.Calls.{outcome_of}
use Rattle.lock_queue.specs.Outcomes.{Outcome, outcome}
use Rattle.lock_queue.specs.Refusals.{code_of}
use Rattle.lock_queue.specs.WellFormed.{shares_rightly}
use Rattle.call_block.specs.declared.block.Block.{Block}
use Rattle.lock_queue.specs.declared.terms.BlockUse.TheVariants as block_use
use Rattle.call_block.specs.Blocks.{block_at}
use Rattle.job_sched.specs.declared.job.Job.{Job}
use Rattle.job_sched.specs.declared.job.Wait.TheVariants.{Queue}
use Rattle.uuo_calls.specs.CallState.{CallState, ac_of, skipping, refusing, waiting}

-- wants that a call may ask for: one or more, and no pool is shared
abbrev pub AreAskable : ArrayVec Want → Type 0
AreAskable wants = IsTrue (nat_le 1 (length wants.items)) × IsTrue (list_all shares_rightly wants.items)

-- the request of a block, for a job that may have so many
abbrev pub entering : EnqueueKind → Bool → ℕ → Result Block Refusal → Result LockCall Refusal
entering kind armed quota (Ok block) =
    Ok (Enqueue (record { kind = kind; id = block.id; armed = armed; quota = quota }) block.wants)
entering kind armed quota (Err refusal) = Err refusal

-- the change of a block
abbrev pub changing : Result Block Refusal → Result LockCall Refusal
changing (Ok block) = Ok (Modify block.wants)
changing (Err refusal) = Err refusal

-- the wants that a block gives up
abbrev pub naming : Result Block Refusal → Result LockCall Refusal
naming (Ok block) = Ok (DequeueNamed block.wants)
naming (Err refusal) = Err refusal

-- what ENQ. asks for: its AC is `function,,address`
abbrev pub enq_asks : List ℕ → List ℕ → ℕ → ℕ → Bool → ℕ → Result LockCall Refusal
enq_asks regs core n w armed quota =
    if left_half w == 0 then entering Blocking armed quota (block_at regs core (right_half w) n block_use.Blocking) else
    if left_half w == 1 then entering AtOnce armed quota (block_at regs core (right_half w) n block_use.Full) else
    if left_half w == 2 then entering Interrupt armed quota (block_at regs core (right_half w) n block_use.Full) else
    if left_half w == 3 then changing (block_at regs core (right_half w) n block_use.Named) else
    Err NoFunction

-- the limit of a block, 0 where it is refused
abbrev pub limit_in : Result Block Refusal → ℕ
limit_in (Ok block) = block.limit
limit_in (Err refusal) = 0

-- how many ticks a job waits at most where its ENQ. is queued, 0 for no limit: ENQ. 0 alone waits
abbrev pub enq_limit : List ℕ → List ℕ → ℕ → ℕ → ℕ
enq_limit regs core n w = if left_half w == 0 then limit_in (block_at regs core (right_half w) n block_use.Blocking) else 0

-- a call with the locks of a block instead of its own, if it names locks
abbrev pub with_block : LockCall → Result Block Refusal → Result LockCall Refusal
with_block (Enqueue asking wants) block = entering asking.kind asking.armed asking.quota block
with_block (Modify wants) block = changing block
with_block (DequeueNamed wants) block = naming block
with_block DequeueAll block = Ok DequeueAll
with_block (DequeueId id) block = Ok (DequeueId id)

-- the limit that a block sets for a call; only a call that enters a request can have one
abbrev pub limit_with : LockCall → Result Block Refusal → ℕ
limit_with (Enqueue asking wants) block = limit_in block
limit_with _ block = 0

-- the call that was filled in, or the refusal
abbrev pub filled : Result ℕ Refusal → LockCall → Result LockCall Refusal
filled (Ok limit) call = Ok call
filled (Err refusal) call = Err refusal

-- the limit that was read, 0 where the call is refused
abbrev pub limit_read : Result ℕ Refusal → ℕ
limit_read (Ok limit) = limit
limit_read (Err refusal) = 0

-- the requests and the answer after this call, or this refusal, in a queue of this size
abbrev pub asked : ℕ → List Request → ℕ → Result LockCall Refusal → Outcome
asked size requests n (Ok call) = outcome_of size requests n call
asked size requests n (Err refusal) = outcome requests (Refused refusal)

-- the job after an answer: it skips, and where its request is queued it waits, for so many ticks at most; a refused call puts
-- its code in AC
abbrev pub answered : Job → ℕ → ℕ → LockReply → Job
answered j ac limit Granted = skipping j
answered j ac limit Queued = waiting (skipping j) (Queue limit ac)
answered j ac limit Done = skipping j
answered j ac limit (Refused refusal) = refusing j ac (code_of refusal)

abbrev pub replied : CallState → ℕ → ℕ → Outcome → CallState
replied a ac limit o = record a { job = answered a.job ac limit o.reply; requests = o.requests }

abbrev pub enq_row : ℕ → ℕ → CallState → CallState
enq_row n ac a =
    replied a ac (enq_limit a.job.regs.ac (core_of a.cores n) n (ac_of a.job ac))
    (asked a.size a.requests n
    (enq_asks a.job.regs.ac (core_of a.cores n) n (ac_of a.job ac) (is_some a.job.interrupts.vector) a.job.quota))

-- what DEQ. asks for: its AC is `function,,address`, or `2,,id`
abbrev pub deq_asks : List ℕ → List ℕ → ℕ → ℕ → Result LockCall Refusal
deq_asks regs core n w =
    if left_half w == 0 then naming (block_at regs core (right_half w) n block_use.Named) else
    if left_half w == 1 then Ok DequeueAll else
    if left_half w == 2 then Ok (DequeueId (right_half w)) else
    Err NoFunction

abbrev pub deq_row : ℕ → ℕ → CallState → CallState
deq_row n ac a =
    replied a ac 0 (asked a.size a.requests n (deq_asks a.job.regs.ac (core_of a.cores n) n (ac_of a.job ac)))
