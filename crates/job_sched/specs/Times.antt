-- The time of day, tick by tick.
use Rattle.std.specs.Prelude.{ℕ, zero, suc, ◌+◌, ◌%◌}
use Rattle.job_sched.specs.declared.time_of_day.TheConstants.{TICKS_A_DAY}

-- the time so many ticks later; after the last tick of a day comes midnight
abbrev pub later : ℕ → ℕ → ℕ
later time zero = time
later time (suc n) = (later time n + 1) % TICKS_A_DAY
