-- A round in which nothing is to be told: a step without a call after which its job goes on, and a tick at which no limit ends.
use Rattle.std.specs.Prelude.{ℕ, ◌≡◌, false, Some, None}
use Rattle.job_sched.specs.Changes.{ticked_table}
use Rattle.job_sched.specs.Limits.{expires}
use Rattle.machine.specs.Machine.{S, happens}
use Rattle.machine.specs.Told.{told_in}
use Rattle.machine.specs.Views.{job_view}
use Rattle.machine.specs.declared.event.Event.TheVariants.{Step}
use Rattle.machine.specs.declared.told.Told.{Told}
use Rattle.machine.specs.declared.view.JobView.{JobView}

-- a turn of job n without a call
abbrev pub silent : ℕ → ℕ → Told
silent n next = record { job = n; next = next; call = None; asked = None; reply = None }

pub record IsQuiet (s : S) : Type 0 where
  pub job : ℕ
  pub next : ℕ
  pub told : told_in s ≡ Some (silent job next)
  pub view : JobView
  pub there : job_view (happens s Step).state.world job ≡ Some view
  pub goes : view.stop ≡ None
  pub limits : (n : ℕ) → expires (happens s Step).state.world.requests (ticked_table (happens s Step).state.world.table).jobs n ≡ false
