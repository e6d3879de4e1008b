-- Jobs that go on as long as nobody can notice it, and moves from one settled state to the next (this project's profile).
use Rattle.std.specs.Prelude.{ℕ, zero, suc, ◌≡◌, ◌<◌, ◌+◌, ◌&&◌, ◌||◌, not, nat_lt, Bool, true, false, if◌then◌else◌, [], map, replicate, Option, Some, None, unwrap_or}
use Rattle.std.specs.Option.{option_map}
use Rattle.ka_cpu.specs.Exec.{exec}
use Rattle.ka_state.specs.declared.outcome.Outcome.{Outcome}
use Rattle.ka_state.specs.declared.outcome.Outcome.TheVariants as outcome
use Rattle.core_store.specs.Cores.{core_of}
use Rattle.lock_queue.specs.Jobs.{is_waiting_job}
use Rattle.job_sched.specs.Tables.{job_at}
use Rattle.job_sched.specs.declared.job.Job.{Job}
use Rattle.uuo_calls.specs.Performed.{World}
use Rattle.uuo_calls.specs.Services.{service_of}
use Rattle.word36.specs.declared.sizes.TheConstants.{JOBS}
use Rattle.machine.specs.Machine.{S}
use Rattle.job_order_laws.specs.Erased.{erased, limit_in, turned_at_once}
use Rattle.job_order_laws.specs.Noticed.{is_noticed}
use Rattle.job_order_laws.specs.Ticked.{is_clock}
use Rattle.job_order_laws.specs.Turned.{IsSound, V, can_run, pc_in}

-- a safe state at midnight in which no job sleeps
pub record IsAwake (v : V) : Type 0 where
  pub sound : IsSound v
  pub awake : erased v ≡ v

-- a machine on which nobody has taken a turn yet, and on which no job sleeps
abbrev pub begun : S → V
begun s = erased (record { machine = s; texts = replicate (JOBS + 1) []; last = map pc_in s.world.table.jobs })

-- whether the next instruction of job n reads the time of day
abbrev pub is_clock_outcome : Outcome → Bool
is_clock_outcome (outcome.Call kind ac e) = is_clock (service_of kind ac e)
is_clock_outcome outcome.Done = false
is_clock_outcome (outcome.Stop reason) = false

abbrev pub reads_clock_of : World → ℕ → Option Job → Bool
reads_clock_of w n (Some j) = is_clock_outcome (exec j.regs (core_of w.cores n)).outcome
reads_clock_of w n None = false

abbrev pub reads_clock : World → ℕ → Bool
reads_clock w n = reads_clock_of w n (job_at w.table.jobs n)

-- whether others can notice the next turn of job n, or it reads the time of day
abbrev pub is_loud_turn : V → ℕ → Bool
is_loud_turn v n = is_noticed v.machine.world n || reads_clock v.machine.world n

-- whether job n can take a turn that is not so
abbrev pub is_quiet : V → ℕ → Bool
is_quiet v n = can_run v.machine.world n && not (is_loud_turn v n)

-- job n takes such turns, at most `most`
unfoldable pub alone : ℕ → ℕ → V → V
alone zero n v = v
alone (suc most) n v = if is_quiet v n then alone most n (unwrap_or (turned_at_once v n) v) else v

-- jobs 1 to `count` do so, one after the other
unfoldable pub settled : ℕ → ℕ → V → V
settled most zero v = v
settled most (suc count) v = alone most (suc count) (settled most count v)

-- whether a limit counts for job n: it waits for a grant, and not for ever
abbrev pub has_limit : World → ℕ → Bool
has_limit w n = is_waiting_job w.requests n && nat_lt 0 (limit_in (job_at w.table.jobs n))

-- whether no limit counts for job n, and its next turn, if it can take one, is noticed and does not read the time of day
abbrev pub is_clear_of : V → ℕ → Bool
is_clear_of v n =
    not (has_limit v.machine.world n)
    && (not (can_run v.machine.world n) || (is_noticed v.machine.world n && not (reads_clock v.machine.world n)))

-- whether that holds of jobs 1 to `count`
unfoldable pub is_clear : ℕ → V → Bool
is_clear zero v = true
is_clear (suc count) v = is_clear count v && is_clear_of v (suc count)

-- a move: job k + 1 takes its turn, at the end of which no job sleeps, and all jobs go on. From a state that is not clear there is no
-- move, since moves are not enough for all runs from there.
abbrev pub next : ℕ → ℕ → V → ℕ → Option V
next most count v k = if is_clear count v then option_map (settled most count) (turned_at_once v (k + 1)) else None

-- no jobs but 1 to `count` are there
abbrev pub HasJobs : ℕ → V → Type 0
HasJobs count v = (m : ℕ) → count < m → job_at v.machine.world.table.jobs m ≡ None
