-- What holds of every state (this project's profile).
use Rattle.std.specs.Prelude.{ℕ, ◌≡◌, ◌≢◌, ◌+◌, ◌*◌, ◌^◌, ◌<◌, ◌≤◌, ⊤, true, List, [], length, Option, Some, None, is_some, sum_by}
use Rattle.word36.specs.declared.sizes.TheConstants.{JOBS, BLOCK_WORDS, MOST_BLOCKS, LINES}
use Rattle.core_store.specs.Cores.{Cores, IsStore, core_of}
use Rattle.lock_queue.specs.declared.request.Request.{Request}
use Rattle.lock_queue.specs.Jobs.{is_waiting_job}
use Rattle.lock_queue.specs.StatusWords.{has_job}
use Rattle.lock_laws.specs.Circles.{WaitsByLatest}
use Rattle.lock_laws.specs.Safe.{Safe as SafeRequests}
use Rattle.job_sched.specs.Limits.{is_queue}
use Rattle.job_sched.specs.Tables.{job_at}
use Rattle.job_sched.specs.declared.job.Job.{Job}
use Rattle.job_sched.specs.declared.job.Wait.{Wait}
use Rattle.job_sched.specs.declared.job.Wait.TheVariants.{None as Nothing, Queue}
use Rattle.machine.specs.Machine.{S}

-- what the job of a slot waits for
abbrev pub wait_of : Option Job → Wait
wait_of (Some j) = j.wait
wait_of None = Nothing

-- the jobs and their core
pub record Housed (jobs : List (Option Job)) (cores : Cores) : Type 0 where
  pub slots : length jobs ≡ JOBS + 1
  -- no job has the number 0
  pub none_0 : job_at jobs 0 ≡ None
  pub store : IsStore cores
  -- a job that is there has core, and one that is not has none
  pub core : (n : ℕ) → is_some (job_at jobs n) ≡ true → core_of cores n ≢ []
  pub bare : (n : ℕ) → job_at jobs n ≡ None → core_of cores n ≡ []

-- the jobs and the requests of a lock table that holds so many
pub record Queued (size : ℕ) (jobs : List (Option Job)) (requests : List Request) : Type 0 where
  -- an exclusive owner is alone, a pool is never overdrawn, nobody overtakes, and more
  pub safe : SafeRequests size requests
  -- the job of each request is there
  pub live : (n : ℕ) → has_job requests n ≡ true → is_some (job_at jobs n) ≡ true
  -- a job that has a blocking request that is not granted waits for it, by its latest request
  pub waiting : (n : ℕ) → is_waiting_job requests n ≡ true → is_queue (wait_of (job_at jobs n)) ≡ true
  pub latest : WaitsByLatest requests

-- the line of a job
abbrev pub line_of : Option Job → Option ℕ
line_of (Some j) = Some j.line
line_of None = None

-- no two jobs share a line
abbrev pub LinesApart : List (Option Job) → Type 0
LinesApart jobs = (a b line : ℕ) → line_of (job_at jobs a) ≡ Some line → line_of (job_at jobs b) ≡ Some line → a ≡ b

-- each job's line is one of the machine's
abbrev pub LinesBelow : List (Option Job) → Type 0
LinesBelow jobs = (a line : ℕ) → line_of (job_at jobs a) ≡ Some line → line < LINES

-- the call by which a job waits for a grant has one of the sixteen accumulators
abbrev pub HasAccumulator : Wait → Type 0
HasAccumulator (Queue limit ac) = ac < 16
HasAccumulator _ = ⊤

-- the numbers of a job are in their ranges: its PC and its start are addresses, it has sixteen accumulators, and the call by which
-- it waits for a grant has one of these
abbrev pub InRange : Option Job → Type 0
InRange (Some j) = (j.regs.pc < 2 ^ 18) × (j.start < 2 ^ 18) × (length j.regs.ac ≡ 16) × HasAccumulator j.wait
InRange None = ⊤

-- how many words all jobs and the free blocks have
abbrev pub all_words : Cores → ℕ
all_words cores = sum_by (λ words. length words) cores.cores + cores.free * BLOCK_WORDS

-- the machine is safe
pub record Safe (s : S) : Type 0 where
  pub housed : Housed s.world.table.jobs s.world.cores
  pub queued : Queued s.world.size s.world.table.jobs s.world.requests
  pub apart : LinesApart s.world.table.jobs
  -- the free blocks are those of the machine less those of all jobs
  pub total : all_words s.world.cores ≡ s.blocks * BLOCK_WORDS
  pub most : s.blocks ≤ MOST_BLOCKS
  -- each job's line is there
  pub rings : length s.world.lines ≡ LINES
  pub numbers : LinesBelow s.world.table.jobs
  pub ranges : (n : ℕ) → InRange (job_at s.world.table.jobs n)
