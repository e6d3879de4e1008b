-- RESET, EXIT, MSTIME, PJOB and SLEEP (TOPS-10 Monitor Calls Manual, in this project's profile).
use Rattle.std.specs.Prelude.{ℕ, ◌*◌, ◌/◌, ◌==◌, if◌then◌else◌}
use Rattle.word36.specs.Words.{right_half}
use Rattle.lock_queue.specs.Jobs.{released}
use Rattle.job_sched.specs.Jobs.{halted, no_interrupts}
use Rattle.job_sched.specs.declared.job.Job.{Job}
use Rattle.job_sched.specs.declared.job.Stop.TheVariants.{Exit, Monitor}
use Rattle.job_sched.specs.declared.job.Wait.TheVariants.{Sleep}
use Rattle.job_sched.specs.declared.time_of_day.TheConstants.{TICKS_A_SECOND}
use Rattle.uuo_calls.specs.CallState.{CallState, ac_of, with_ac, waiting}

-- the job has no vector
abbrev pub calm : Job → Job
calm j = record j { interrupts = no_interrupts }

-- the job's requests leave
abbrev pub reset_row : ℕ → CallState → CallState
reset_row n a = record a { job = calm a.job; requests = released a.requests n }

-- RESET, and a stop
abbrev pub exit_row : ℕ → CallState → CallState
exit_row n a = record a { job = halted (calm a.job) Exit; requests = released a.requests n }

-- EXIT 1 stops the job, and releases nothing
abbrev pub monrt_row : CallState → CallState
monrt_row a = record a { job = halted a.job Monitor }

-- the time of day in milliseconds, from ticks of a sixtieth of a second
abbrev pub mstime_row : ℕ → ℕ → CallState → CallState
mstime_row time ac a = record a { job = with_ac a.job ac (time * 50 / 3) }

abbrev pub pjob_row : ℕ → ℕ → CallState → CallState
pjob_row n ac a = record a { job = with_ac a.job ac n }

-- so many seconds in ticks, and one tick for none
abbrev pub ticks_of : ℕ → ℕ
ticks_of seconds = if seconds == 0 then 1 else TICKS_A_SECOND * seconds

abbrev pub sleep_row : ℕ → CallState → CallState
sleep_row ac a = record a { job = waiting a.job (Sleep (ticks_of (right_half (ac_of a.job ac)))) }
