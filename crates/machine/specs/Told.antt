-- What a step makes known: the job that took its turn, the call that it made, what it asked, and what it was answered.
use Rattle.std.specs.Prelude.{ℕ, ◌-◌, Bool, true, false, if◌then◌else◌, List, [], Option, Some, None}
use Rattle.lock_queue.specs.declared.call.LockReply.{LockReply}
use Rattle.lock_queue.specs.declared.request.Request.{Request}
use Rattle.job_sched.specs.Changes.{chosen}
use Rattle.job_sched.specs.Tables.{job_at}
use Rattle.job_sched.specs.declared.job.Job.{Job}
use Rattle.uuo_calls.specs.Asked.{ReadBlock, asked_of, block_of, reply_to}
use Rattle.uuo_calls.specs.Performed.{World}
use Rattle.uuo_calls.specs.Services.{service_of}
use Rattle.uuo_calls.specs.declared.asked.Asked.{Asked}
use Rattle.uuo_calls.specs.declared.call.MonitorCall.{MonitorCall}
use Rattle.uuo_calls.specs.declared.service.Service.{Service}
use Rattle.uuo_calls.specs.declared.service.Service.TheVariants.{Enq}
use Rattle.machine.specs.declared.told.Told.{Told}
use Rattle.machine.specs.Between.{next_in}
use Rattle.machine.specs.Machine.{S, awake, with_turn}
use Rattle.machine.specs.Owners.{is_release}
use Rattle.machine.specs.Stretches.{Stretch, passed, stretch_of}
use Rattle.machine.specs.Turns.{Turn, turn_of}
use Rattle.machine.specs.Waits.{ungranted}

-- what a call asks, and what it is answered, if there is a call
abbrev pub asked_by : World → ℕ → Option MonitorCall → Option Asked
asked_by w n (Some c) = asked_of w n c
asked_by w n None = None

abbrev pub answered_by : World → ℕ → Option MonitorCall → Option LockReply
answered_by w n (Some c) = reply_to w n c
answered_by w n None = None

-- the calls by which requests that waited may come to be granted: those that give locks up, and ENQ., which may change a want
abbrev pub may_grant : Service → Bool
may_grant Enq = true
may_grant service = is_release service

abbrev pub grants_by : Option MonitorCall → Bool
grants_by (Some c) = may_grant (service_of c.kind c.ac c.e)
grants_by None = false

-- the requests that are not granted before such a call; none before any other
abbrev pub requests_before : World → Option MonitorCall → List Request
requests_before w call = if grants_by call then ungranted w.requests else []

-- the block that a call reads, if it is a lock call that reads one
abbrev pub block_before : World → ℕ → Option MonitorCall → ReadBlock
block_before w n (Some c) = block_of w n c
block_before w n None = None

-- what job n makes known in the world in which its call is performed
abbrev pub told_of_call : World → ℕ → ℕ → Option MonitorCall → Told
told_of_call w n pc call =
    record { job = n; next = pc; call = call; asked = asked_by w n call; reply = answered_by w n call }

-- what a turn makes known
abbrev pub told_of_turn : World → ℕ → Turn → Told
told_of_turn w n t = told_of_call (with_turn w n t) n t.job.regs.pc t.call

abbrev pub told_by : World → ℕ → Option Job → Option Told
told_by w n (Some j) = Some (told_of_turn w n (turn_of n (awake j) w.cores w.requests))
told_by w n None = None

-- the requests that are not granted before the call of a turn
abbrev pub before_turn : World → ℕ → Turn → List Request
before_turn w n t = requests_before (with_turn w n t) t.call

abbrev pub before_by : World → ℕ → Option Job → List Request
before_by w n (Some j) = before_turn w n (turn_of n (awake j) w.cores w.requests)
before_by w n None = []

-- the world in which job n takes its turn
abbrev pub world_of : S → ℕ → World
world_of s n = record s.world { table = chosen s.world.table n s.quantum }

abbrev pub before_of : S → Option ℕ → List Request
before_of s (Some n) = before_by (world_of s n) n (job_at s.world.table.jobs n)
before_of s None = []

-- the requests that are not granted before the call of a step, where it may grant some
abbrev pub before_in : S → List Request
before_in s = before_of s (next_in s)

-- the block that the call of a turn reads
abbrev pub read_turn : World → ℕ → Turn → ReadBlock
read_turn w n t = block_before (with_turn w n t) n t.call

abbrev pub read_by : World → ℕ → Option Job → ReadBlock
read_by w n (Some j) = read_turn w n (turn_of n (awake j) w.cores w.requests)
read_by w n None = None

abbrev pub read_of : S → Option ℕ → ReadBlock
read_of s (Some n) = read_by (world_of s n) n (job_at s.world.table.jobs n)
read_of s None = None

-- the block that the call of a step reads, or its first refusal, if that is a lock call that reads one
abbrev pub read_in : S → ReadBlock
read_in s = read_of s (next_in s)

abbrev pub told_of : S → Option ℕ → Option Told
told_of s (Some n) = told_by (world_of s n) n (job_at s.world.table.jobs n)
told_of s None = None

-- what a step makes known; nothing where no job is ready
abbrev pub told_in : S → Option Told
told_in s = told_of s (next_in s)

-- ---- of some rounds of one job, made at once: what the last of them makes known

abbrev pub told_of_stretch : World → ℕ → ℕ → Bool → Stretch → Told
told_of_stretch w quantum n ticking x =
    told_of_call (passed (with_turn w n x.turn) quantum ticking (x.rounds - 1)) n x.turn.job.regs.pc x.turn.call

abbrev pub before_stretch : World → ℕ → ℕ → Bool → Stretch → List Request
before_stretch w quantum n ticking x =
    requests_before (passed (with_turn w n x.turn) quantum ticking (x.rounds - 1)) x.turn.call

abbrev pub before_on : World → ℕ → ℕ → ℕ → Bool → Option Job → List Request
before_on w quantum n k ticking (Some j) = before_stretch w quantum n ticking (stretch_of n k (awake j) w.cores w.requests)
before_on w quantum n k ticking None = []

abbrev pub read_stretch : World → ℕ → ℕ → Bool → Stretch → ReadBlock
read_stretch w quantum n ticking x =
    block_before (passed (with_turn w n x.turn) quantum ticking (x.rounds - 1)) n x.turn.call

abbrev pub read_on : World → ℕ → ℕ → ℕ → Bool → Option Job → ReadBlock
read_on w quantum n k ticking (Some j) = read_stretch w quantum n ticking (stretch_of n k (awake j) w.cores w.requests)
read_on w quantum n k ticking None = None

abbrev pub told_on : World → ℕ → ℕ → ℕ → Bool → Option Job → Option Told
told_on w quantum n k ticking (Some j) =
    Some (told_of_stretch w quantum n ticking (stretch_of n k (awake j) w.cores w.requests))
told_on w quantum n k ticking None = None
