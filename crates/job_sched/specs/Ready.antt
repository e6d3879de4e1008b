-- Which jobs are ready, and which job is next (this project's profile; the waits are those of the TOPS-10 Monitor Calls Manual).
use Rattle.std.specs.Prelude.{ℕ, suc, zero, ◌+◌, ◌%◌, ◌&&◌, Bool, false, not, nat_lt, if◌then◌else◌, List, length, Option, Some, None}
use Rattle.std.specs.Prelude.{is_none}
use Rattle.word36.specs.declared.sizes.TheConstants.{JOBS}
use Rattle.lock_queue.specs.declared.request.Request.{Request}
use Rattle.lock_queue.specs.Jobs.{is_waiting_job}
use Rattle.tty_lines.specs.Rings.{Rings, input_of, room_of, holds_line}
use Rattle.job_sched.specs.declared.job.Job.{Job}
use Rattle.job_sched.specs.declared.job.Wait.{Wait}
use Rattle.job_sched.specs.declared.job.Wait.TheVariants.{None as Nothing, Sleep, Char, Line, Room, Queue}
use Rattle.job_sched.specs.Tables.{Table, job_at}

-- whether the wait of job n, at a line, holds: a sleep as long as ticks are left, another wait as long as what it is for is not there
abbrev pub holds : List Rings → List Request → ℕ → ℕ → Wait → Bool
holds lines requests n line Nothing = false
holds lines requests n line (Sleep ticks) = nat_lt 0 ticks
holds lines requests n line Char = not (nat_lt 0 (length (input_of lines line)))
holds lines requests n line Line = not (holds_line (input_of lines line))
holds lines requests n line (Room places) = nat_lt (room_of lines line) places
holds lines requests n line (Queue limit ac) = is_waiting_job requests n

-- whether the slot of job n has a job that is not stopped and whose wait does not hold
abbrev pub is_ready_job : List Rings → List Request → ℕ → Option Job → Bool
is_ready_job lines requests n (Some j) = is_none j.stop && not (holds lines requests n j.line j.wait)
is_ready_job lines requests n None = false

abbrev pub is_ready : List (Option Job) → List Rings → List Request → ℕ → Bool
is_ready jobs lines requests n = is_ready_job lines requests n (job_at jobs n)

-- the number after n, in a circle
abbrev pub after : ℕ → ℕ
after n = n % JOBS + 1

-- the first of so many numbers, from n on in a circle, for which a test holds
unfoldable pub first_from : (ℕ → Bool) → ℕ → ℕ → Option ℕ
first_from test zero n = None
first_from test (suc k) n = if test n then Some n else first_from test k (after n)

-- the current job where it is ready and has quantum left; otherwise the first ready number after it, in a circle that
-- ends with it
abbrev pub next_job : Table → List Rings → List Request → Option ℕ
next_job t lines requests =
    if nat_lt 0 t.left && is_ready t.jobs lines requests t.current
    then Some t.current
    else first_from (is_ready t.jobs lines requests) JOBS (after t.current)
