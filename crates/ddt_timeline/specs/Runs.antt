-- Runs of steps: who goes on, and where a run ends (this project's profile).
use Rattle.std.specs.List.{list_any}
use Rattle.std.specs.Prelude.{ℕ, ◌≡◌, ◌<◌, ◌≤◌, ◌+◌, ◌-◌, ◌&&◌, nat_lt, is_none, Bool, true, false, List, Option, Some, None}
use Rattle.lock_queue.specs.Waits.{jobs}
use Rattle.job_sched.specs.declared.job.Wait.{Wait}
use Rattle.job_sched.specs.declared.job.Wait.TheVariants.{None as Nothing, Sleep, Char, Line, Room, Queue}
use Rattle.machine.specs.Machine.{S, after}
use Rattle.machine.specs.Rounds.{rounds}
use Rattle.machine.specs.Views.{job_view}
use Rattle.machine.specs.declared.view.JobView.{JobView}
use Rattle.ddt_timeline.specs.Stops.{met_after}
use Rattle.ddt_timeline.specs.declared.stops.Run.{Run}
use Rattle.ddt_timeline.specs.declared.stops.WatchedStop.{WatchedStop}

-- whether a wait ends by ticks alone, or is none: a sleep, and a wait for a lock that has a limit
abbrev pub ends_by_ticks : Wait → Bool
ends_by_ticks Nothing = true
ends_by_ticks (Sleep ticks) = true
ends_by_ticks Char = false
ends_by_ticks Line = false
ends_by_ticks (Room addresses) = false
ends_by_ticks (Queue limit ac) = nat_lt 0 limit

-- whether a job can go on now, or will by ticks alone
abbrev pub goes_on : Option JobView → Bool
goes_on (Some view) = is_none view.stop && ends_by_ticks view.wait
goes_on None = false

-- whether job n goes on
abbrev pub goes_on_in : S → ℕ → Bool
goes_on_in s n = goes_on (job_view s.world n)

-- whether any job goes on
abbrev pub some_go_on : S → Bool
some_go_on s = list_any (goes_on_in s) jobs

-- a job goes on
abbrev pub SomeGoesOn : S → Type 0
SomeGoesOn s = (n : ℕ) × (goes_on_in s n ≡ true)

abbrev pub is_no_wait : Wait → Bool
is_no_wait Nothing = true
is_no_wait (Sleep ticks) = false
is_no_wait Char = false
is_no_wait Line = false
is_no_wait (Room addresses) = false
is_no_wait (Queue limit ac) = false

-- whether a job can run now: it is not stopped, and waits for nothing
abbrev pub can_run : Option JobView → Bool
can_run (Some view) = is_none view.stop && is_no_wait view.wait
can_run None = false

-- a run from a state on, to some stops, of at most so many rounds: behind none of its rounds but the last a stop held, and
-- before each of them a job went on; what it says of its stops is what holds behind the last one; the watch ended it only
-- where no stop did; and where it made fewer than it may, a stop or the watch ended it, or no job goes on
pub record IsRun (s : S) (stops : List WatchedStop) (limit : ℕ) (ran : Run) : Type 0 where
  pub most : ran.made ≤ limit
  pub none_over : (k : ℕ) → k + 1 < ran.made → met_after stops (after (rounds k true) s) ≡ None
  pub last : 1 ≤ ran.made → ran.stop ≡ met_after stops (after (rounds (ran.made - 1) true) s)
  pub nothing : ran.made ≡ 0 → ran.stop ≡ None
  pub quiet : ran.by_watch ≡ true → ran.stop ≡ None
  pub going : (k : ℕ) → k < ran.made → SomeGoesOn (after (rounds k true) s)
  pub ends : ran.made < limit → ran.stop ≡ None → ran.by_watch ≡ false → some_go_on (after (rounds ran.made true) s) ≡ false
