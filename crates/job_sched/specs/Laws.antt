-- Laws of the scheduler. Each is the contract of a function that does nothing.
use Rattle.std.specs.Prelude.{ℕ, ◌≡◌, ◌≢◌, ◌≤◌, true, false, List, Some, None}
use Rattle.word36.specs.declared.sizes.TheConstants.{JOBS}
use Rattle.lock_queue.specs.declared.request.Request.{Request}
use Rattle.tty_lines.specs.Rings.{Rings}
use Rattle.job_sched.specs.Ready.{is_ready, next_job}
use Rattle.job_sched.specs.Spans.{is_alone}
use Rattle.job_sched.specs.Tables.{Table}

-- the job that is next is ready
abbrev pub NextIsReady : Type 0
NextIsReady =
    (t : Table) (lines : List Rings) (requests : List Request) (n : ℕ) → next_job t lines requests ≡ Some n
    → is_ready t.jobs lines requests n ≡ true

-- no job is next only where no job is ready
abbrev pub IdleMeansNoneIsReady : Type 0
IdleMeansNoneIsReady =
    (t : Table) (lines : List Rings) (requests : List Request) → next_job t lines requests ≡ None
    → (n : ℕ) → 1 ≤ n → n ≤ JOBS → is_ready t.jobs lines requests n ≡ false

-- where a job is next though its quantum has just ended, no other job is ready
abbrev pub AloneMeansNoOtherIsReady : Type 0
AloneMeansNoOtherIsReady =
    (t : Table) (lines : List Rings) (requests : List Request) (n : ℕ) → next_job t lines requests ≡ Some n → is_alone t n ≡ true
    → (m : ℕ) → 1 ≤ m → m ≤ JOBS → m ≢ n → is_ready t.jobs lines requests m ≡ false
