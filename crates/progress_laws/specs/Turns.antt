-- How many job numbers pass a test.
use Rattle.std.specs.Prelude.{ℕ, zero, suc, ◌+◌, Bool, if◌then◌else◌}
use Rattle.word36.specs.declared.sizes.TheConstants.{JOBS}
use Rattle.job_sched.specs.Ready.{after}

-- how many of so many numbers, from n on in a circle, pass a test
unfoldable pub passing_from : (ℕ → Bool) → ℕ → ℕ → ℕ
passing_from test zero n = 0
passing_from test (suc k) n = (if test n then 1 else 0) + passing_from test k (after n)

-- how many of all numbers that a job can have pass a test
abbrev pub how_many : (ℕ → Bool) → ℕ
how_many test = passing_from test JOBS 1
