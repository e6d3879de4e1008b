-- Laws of every call, in the words of the Monitor Calls Manual. Each is the contract of a function that does nothing.
use Rattle.std.specs.Prelude.{ℕ, ◌≡◌, ◌≢◌, ◌<◌, ◌≤◌, ◌+◌, ◌*◌, ◌/◌, ◌%◌, ◌^◌, ◌⊎◌, Bool, true, false, List, [], ◌∷◌, ◌++◌, length, Some}
use Rattle.word36.specs.declared.sizes.TheConstants.{OUTPUT_RING}
use Rattle.word36.specs.Words.{left_half}
use Rattle.core_store.specs.Cores.{core_of}
use Rattle.lock_queue.specs.declared.request.Request.{Request}
use Rattle.tty_lines.specs.Rings.{input_of, output_of, room_of, with_output}
use Rattle.job_sched.specs.declared.job.Job.{Job}
use Rattle.job_sched.specs.declared.job.Wait.{Wait}
use Rattle.job_sched.specs.declared.job.Wait.TheVariants.{Char, Line, Room}
use Rattle.job_sched.specs.Changes.{with_job}
use Rattle.job_sched.specs.Tables.{job_at}
use Rattle.uuo_calls.specs.declared.call.CallOutcome.TheVariants.{Empty}
use Rattle.uuo_calls.specs.declared.call.MonitorCall.{MonitorCall}
use Rattle.uuo_calls.specs.declared.service.Service.{Service}
use Rattle.uuo_calls.specs.declared.service.Service.TheVariants.{Core, Logout, Mstime, Piini, Pisys, Enq}
use Rattle.uuo_calls.specs.declared.service.Service.TheVariants.{Deq, Enqc, Datrd, Datwr, Outstr}
use Rattle.uuo_calls.specs.CallState.{ac_of, with_ac, put_back, waiting}
use Rattle.uuo_calls.specs.Performed.{World, performed}
use Rattle.uuo_calls.specs.Services.{service_of}
use Rattle.uuo_calls.specs.TerminalRows.{text_from}

-- which call it is
abbrev pub service_in : MonitorCall → Service
service_in c = service_of c.kind c.ac c.e

-- the world with another job n
abbrev pub with_new_job : World → ℕ → Job → World
with_new_job w n j = record w { table = with_job w.table n (Some j) }

-- whether a wait is for a job's line
abbrev pub is_terminal_wait : Wait → Bool
is_terminal_wait Char = true
is_terminal_wait Line = true
is_terminal_wait (Room places) = true
is_terminal_wait _ = false

-- an empty step changes nothing, except that the job's PC is back at the call and the job waits for its line
abbrev pub EmptyStepsWait : Type 0
EmptyStepsWait =
    (w : World) (time n : ℕ) (c : MonitorCall) (j : Job) → job_at w.table.jobs n ≡ Some j → (performed w time n c).outcome ≡ Empty
    → (wait : Wait) × (is_terminal_wait wait ≡ true) × ((performed w time n c).world ≡ with_new_job w n (waiting (put_back j) wait))

-- OUTSTR puts the whole text at E after the output of its line, or puts nothing
abbrev pub TextsGoWhole : Type 0
TextsGoWhole =
    (w : World) (time n : ℕ) (c : MonitorCall) (j : Job) → job_at w.table.jobs n ≡ Some j → service_in c ≡ Outstr
    → ((performed w time n c).world.lines ≡ w.lines)
    ⊎ ((text : List ℕ) × (text_from j.regs.ac (core_of w.cores n) c.e [] OUTPUT_RING ≡ Some text)
    × (length text ≤ room_of w.lines j.line)
    × ((performed w time n c).world.lines ≡ with_output w.lines j.line (output_of w.lines j.line ++ text)))

-- job n has this word in the call's AC afterwards
abbrev pub Answers : World → ℕ → ℕ → MonitorCall → ℕ → Type 0
Answers w time n c word =
    (j : Job) × (job_at (performed w time n c).world.table.jobs n ≡ Some j) × (ac_of j c.ac ≡ word)

-- CORE answers how many blocks are free after it, granted or not
abbrev pub CoreAnswersFreeBlocks : Type 0
CoreAnswersFreeBlocks =
    (w : World) (time n : ℕ) (c : MonitorCall) (j : Job)
    → job_at w.table.jobs n ≡ Some j → n < length w.table.jobs → c.ac < length j.regs.ac
    → service_in c ≡ Core → Answers w time n c (performed w time n c).world.cores.free

-- MSTIME answers the time of day in milliseconds: its ticks, of which a second has 60, times 50 and divided by 3
abbrev pub MstimeAnswersMilliseconds : Type 0
MstimeAnswersMilliseconds =
    (w : World) (time n : ℕ) (c : MonitorCall) (j : Job)
    → job_at w.table.jobs n ≡ Some j → n < length w.table.jobs → c.ac < length j.regs.ac
    → service_in c ≡ Mstime → Answers w time n c (time * 50 / 3)

-- the calls that skip where they are done
abbrev pub skips_when_done : Service → Bool
skips_when_done Core = true
skips_when_done Piini = true
skips_when_done Pisys = true
skips_when_done Enq = true
skips_when_done Deq = true
skips_when_done Enqc = true
skips_when_done Datrd = true
skips_when_done Datwr = true
skips_when_done _ = false

-- the job's PC is one more than before
abbrev pub HasSkipped : Job → World → ℕ → Type 0
HasSkipped j new n = (k : Job) × (job_at new.table.jobs n ≡ Some k) × (k.regs.pc ≡ (j.regs.pc + 1) % 2 ^ 18)

-- such a call skips, or it is refused: then it changes its AC alone, or, for ENQ. 2, puts its request last in the queue and
-- code 1 in AC; a refused call never skips
abbrev pub RefusalsChangeAcAlone : Type 0
RefusalsChangeAcAlone =
    (w : World) (time n : ℕ) (c : MonitorCall) (j : Job)
    → job_at w.table.jobs n ≡ Some j → n < length w.table.jobs → skips_when_done (service_in c) ≡ true
    → HasSkipped j (performed w time n c).world n
    ⊎ (((code : ℕ) × ((performed w time n c).world ≡ with_new_job w n (with_ac j c.ac code)))
    ⊎ (((left_half (ac_of j c.ac) ≡ 2) × (service_in c ≡ Enq)) × ((request : Request)
    × ((performed w time n c).world ≡ record (with_new_job w n (with_ac j c.ac 1)) { requests = w.requests ++ request ∷ [] }))))

-- a call of job n, at a line, spares all that is not its own
pub record IsSpared (w new : World) (n line : ℕ) : Type 0 where
  pub jobs : (k : ℕ) → k ≢ n → job_at new.table.jobs k ≡ job_at w.table.jobs k
  pub cores : (k : ℕ) → k ≢ n → core_of new.cores k ≡ core_of w.cores k
  pub input : (l : ℕ) → l ≢ line → input_of new.lines l ≡ input_of w.lines l
  pub output : (l : ℕ) → l ≢ line → output_of new.lines l ≡ output_of w.lines l
  pub current : new.table.current ≡ w.table.current

-- no call changes another job, its core or its line, nor which job is current; only LOGOUT changes the quantum, and only DATWR.
-- the words that all jobs share
abbrev pub OthersAreSpared : Type 0
OthersAreSpared =
    (w : World) (time n : ℕ) (c : MonitorCall) (j : Job) → job_at w.table.jobs n ≡ Some j
    → IsSpared w (performed w time n c).world n j.line
    × (service_in c ≢ Logout → (performed w time n c).world.table.left ≡ w.table.left)
    × (service_in c ≢ Datwr → (performed w time n c).world.shared ≡ w.shared)
