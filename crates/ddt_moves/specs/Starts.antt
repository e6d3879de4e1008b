-- Jobs that the debugger starts or continues (this project's profile).
use Rattle.std.specs.Prelude.{ℕ, ◌+◌, ◌&&◌, ◌||◌, min, nat_le, nat_lt, Bool, true, false, is_some, not, List, [], ◌∷◌, slice_index_or}
use Rattle.std.specs.Prelude.{Option, Some, None, if◌then◌else◌}
use Rattle.std.specs.List.{list_any, range_with_len}
use Rattle.job_sched.specs.declared.job.Stop.{Stop}
use Rattle.job_sched.specs.declared.job.Stop.TheVariants as stop
use Rattle.machine.specs.Machine.{S}
use Rattle.machine.specs.declared.sizes.TheConstants.{INTERRUPT_CHARACTER}
use Rattle.machine.specs.Views.{job_view}
use Rattle.machine.specs.declared.view.JobView.{JobView}
use Rattle.ddt_timeline.specs.declared.entries.Entry.TheVariants.{Start, Continue, Typed}
use Rattle.ddt_timeline.specs.Histories.{History, done, machine_of}
use Rattle.ddt_moves.specs.OtherEnds.{cause_of_breakpoint, stands}
use Rattle.ddt_moves.specs.declared.run_stops.StopCause.{StopCause}
use Rattle.ddt_moves.specs.declared.stop_lists.Breakpoint.{Breakpoint}

-- whether a job that is stopped so was not started yet
abbrev pub is_load : Option Stop → Bool
is_load (Some stop.Loaded) = true
is_load (Some stop.Exit) = false
is_load (Some stop.Monitor) = false
is_load (Some (stop.Fault why)) = false
is_load (Some stop.Typed) = false
is_load None = false

abbrev pub is_loaded : Option JobView → Bool
is_loaded (Some view) = is_load view.stop
is_loaded None = false

abbrev pub is_stopped : Option JobView → Bool
is_stopped (Some view) = is_some view.stop
is_stopped None = false

-- whether EXIT 1 or CTRL-C stopped a job
abbrev pub is_break : Option Stop → Bool
is_break (Some stop.Loaded) = false
is_break (Some stop.Exit) = false
is_break (Some stop.Monitor) = true
is_break (Some (stop.Fault why)) = false
is_break (Some stop.Typed) = true
is_break None = false

abbrev pub may_continue : Option JobView → Bool
may_continue (Some view) = is_break view.stop
may_continue None = false

-- what has happened where a job was to be continued
abbrev pub gone_on : ℕ → History → History
gone_on n h = if may_continue (job_view (machine_of h).world n) then done h (Continue n ∷ []) else h

-- what has happened where a job was to be started, or else continued
abbrev pub begun : ℕ → History → History
begun n h = if is_loaded (job_view (machine_of h).world n) then done h (Start n ∷ []) else gone_on n h

-- ---- the jobs that were not started yet, or else the open one

-- whether a job was not started yet
abbrev pub is_new : History → ℕ → Bool
is_new h n = is_loaded (job_view (machine_of h).world n)

-- what has happened where a job was to be started if it was not yet
abbrev pub started_if_new : ℕ → History → History
started_if_new n h = if is_new h n then done h (Start n ∷ []) else h

-- and where some were, one after the other: each is seen as it stands when its turn comes
abbrev pub all_started : List ℕ → History → History
all_started [] h = h
all_started (n ∷ ns) h = all_started ns (started_if_new n h)

-- whether a job is there
abbrev pub is_there : History → ℕ → Bool
is_there h n = is_some (job_view (machine_of h).world n)

-- what has happened where a job was to be stopped, as CTRL-C at its line stops it, if it was not stopped yet
abbrev pub interrupted_by : Option JobView → History → History
interrupted_by (Some view) h = if is_some view.stop then h else done h (Typed view.line INTERRUPT_CHARACTER ∷ [])
interrupted_by None h = h

abbrev pub interrupted : ℕ → History → History
interrupted n h = interrupted_by (job_view (machine_of h).world n) h

-- what has happened where a job that is there was to be started again
abbrev pub started_again : ℕ → History → History
started_again n h = if is_there h n then done (interrupted n h) (Start n ∷ []) else h

-- the numbers of the jobs at so many lines: from 1 on, up to 254 at most
abbrev pub jobs_at : ℕ → List ℕ
jobs_at lines = range_with_len 1 (min 254 lines)

-- what has happened where these jobs were to be started, and the open one where there was none that was not started yet
abbrev pub jobs_started : ℕ → ℕ → History → History
jobs_started lines own h = if list_any (is_new h) (jobs_at lines) then all_started (jobs_at lines) h else started_again own h

-- whether one was started
abbrev pub is_some_started : ℕ → ℕ → History → Bool
is_some_started lines own h = list_any (is_new h) (jobs_at lines) || is_there h own

-- ---- jobs that stand where runs stop, before any step

-- whether a breakpoint is set for one of the jobs from first to last and stops each time, and its job stands there
abbrev pub holds_at_start : S → ℕ → ℕ → Option Breakpoint → Bool
holds_at_start s first last (Some b) = ((nat_le first b.job && nat_le b.job last) && not (nat_lt 1 b.times)) && stands s b
holds_at_start s first last None = false

-- why a run ends at the breakpoint in a slot
abbrev pub cause_in : List (Option Breakpoint) → ℕ → Option StopCause
cause_in slots slot = cause_of_breakpoint (slot + 1) (slice_index_or slots slot None)
