-- Rounds of one job, up to the first after which its PC is one of some addresses (this project's profile).
use Rattle.std.specs.Prelude.{ℕ, ◌≡◌, ◌≢◌, ◌<◌, ◌≤◌, ◌==◌, Bool, false, List, Option, Some, None}
use Rattle.std.specs.List.{list_any}
use Rattle.ka_cpu.specs.Runs.{ran}
use Rattle.ka_state.specs.declared.registers.Regs.{Regs}
use Rattle.job_sched.specs.Ready.{next_job}
use Rattle.job_sched.specs.Tables.{job_at}
use Rattle.job_sched.specs.declared.job.Job.{Job}
use Rattle.machine.specs.Machine.{S}

-- the job whose turn is next, if one is ready
abbrev pub next_in : S → Option ℕ
next_in s = next_job s.world.table s.world.lines s.world.requests

abbrev pub pc_of : Option Job → Option ℕ
pc_of (Some j) = Some j.regs.pc
pc_of None = None

-- the PC of job n, if it is there
abbrev pub pc_in : S → ℕ → Option ℕ
pc_in s n = pc_of (job_at s.world.table.jobs n)

-- whether an address is one of some
abbrev pub is_among : List ℕ → ℕ → Bool
is_among addresses a = list_any (λ b. b == a) addresses

-- the PC of the job of some rounds, if a job ran in them
abbrev pub pc_on : S → Option ℕ → Option ℕ
pc_on s (Some n) = pc_in s n
pc_on s None = None

abbrev pub does_end : (ℕ → Bool) → Option ℕ → Bool
does_end ends (Some a) = ends a
does_end ends None = false

-- of n instructions only the last can leave the PC at an address where the rounds end
abbrev pub NoneOver : (ℕ → Bool) → Regs → List ℕ → ℕ → Type 0
NoneOver ends g core n = (k : ℕ) → 1 ≤ k → k < n → ends (ran k g core).after.regs.pc ≡ false

-- t is a state between two rounds of a job that began in s: the same job is next, its PC is not where the rounds end, and no
-- other job's PC has changed
pub record Between (s t : S) (job : Option ℕ) (ends : ℕ → Bool) : Type 0 where
  pub next : next_in t ≡ job
  pub on : does_end ends (pc_on t job) ≡ false
  pub others : (m : ℕ) → job ≢ Some m → pc_in t m ≡ pc_in s m
