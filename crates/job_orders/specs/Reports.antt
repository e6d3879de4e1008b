-- How runs of some jobs can end (this project's profile). A run is a list of numbers: 0 is a tick, if ticks count, and any other number
-- is a turn of that job (`choice`). A move is a turn that other jobs can notice, after which each job goes on as long as nobody can
-- notice it (`next`); it has the number of its job less 1.
use Rattle.std.specs.Prelude.{ℕ, ◌≡◌, ◌≢◌, ◌<◌, ◌≤◌, List, [], length, map, replicate, Option, Some, None, true, false, ◌+◌}
use Rattle.std.specs.List.{All, AllPairs, Contains}
use Rattle.word36.specs.declared.sizes.TheConstants.{JOBS, LINES}
use Rattle.tty_lines.specs.Rings.{no_characters}
use Rattle.uuo_calls.specs.Performed.{World}
use Rattle.state_search.specs.Found.{HasMore}
use Rattle.state_search.specs.Orders.{IsNotBehind, Leads}
use Rattle.job_order_laws.specs.Choices.{choice, requests_in}
use Rattle.job_order_laws.specs.Erased.{erased}
use Rattle.job_order_laws.specs.Orders.{IsEnd, IsRun}
use Rattle.job_order_laws.specs.Places.{rings_of}
use Rattle.job_order_laws.specs.Turned.{V, can_run, pc_in}
use Rattle.job_moves.specs.Laws.{noticed_turns}
use Rattle.job_moves.specs.Moves.{has_limit, is_clear, is_quiet, next, reads_clock, settled}
use Rattle.job_orders.specs.declared.ends.End.{End}
use Rattle.job_orders.specs.declared.looking.GivenUp.{GivenUp}
use Rattle.job_orders.specs.declared.looking.Looked.{Looked}
use Rattle.job_orders.specs.declared.looking.Looked.TheVariants.{All as Whole, GaveUp}
use Rattle.job_orders.specs.declared.looking.Reason.{Reason}
use Rattle.job_orders.specs.declared.looking.Reason.TheVariants.{States, Typed, Limit, Clock, Turns}
use Rattle.job_orders.specs.declared.looking.Report.{Report}
use Rattle.job_orders.specs.declared.looking.Waiting.{Waiting}
use Rattle.job_orders.specs.Endings.{circle_in, ending_in, ending_of, highest_job}

-- a machine of `blocks` blocks, as it is, on which nobody has taken a turn
abbrev pub started : ℕ → World → V
started blocks w = record {
  machine = record { world = w; time = 0; quantum = 1; blocks = blocks };
  texts = replicate (JOBS + 1) [];
  last = map pc_in w.table.jobs;
}

-- how many jobs there are
abbrev pub count_of : V → ℕ
count_of v = highest_job v.machine.world.table.jobs JOBS

-- these moves lead to a state, in which no job sleeps; a job takes at most `most` turns in a row that nobody can notice
abbrev pub IsOrder : ℕ → V → List ℕ → V → Type 0
IsOrder most v ks t = Leads (count_of v) (next most (count_of v)) (settled most (count_of v) (erased v)) ks t

-- the jobs that wait in a circle
abbrev pub circle_of : V → V → List ℕ
circle_of v t = circle_in (count_of v) (requests_in t)

-- moves to a circle of waits
pub record IsCircle (most : ℕ) (v : V) (c : Waiting) : Type 0 where
  pub state : V
  pub order : IsOrder most v c.moves.items state
  pub jobs : c.jobs.items ≡ circle_of v state
  pub some : c.jobs.items ≢ []
  -- a run leads to this circle
  pub run : (ns : List ℕ) × (w : V) × IsRun choice v ns w × (circle_of v w ≡ c.jobs.items)
  -- no other moves to a circle are fewer, or as many and smaller at the first difference
  pub least : (ks : List ℕ) (t : V) → IsOrder most v ks t → circle_of v t ≢ [] → IsNotBehind c.moves.items ks
  -- in no run to a circle are there fewer turns that others can notice
  pub fewest : (ns : List ℕ) (w : V) → IsRun choice v ns w → circle_of v w ≢ [] → length c.moves.items ≤ noticed_turns v ns

-- none: no run leads to a circle; some: it is one
abbrev pub IsCircleFound : ℕ → V → Option Waiting → Type 0
IsCircleFound most v None = (ns : List ℕ) (w : V) → IsRun choice v ns w → circle_of v w ≡ []
IsCircleFound most v (Some c) = IsCircle most v c

-- moves to an end
pub record IsEndFound (most : ℕ) (v : V) (e : End) : Type 0 where
  pub state : V
  pub order : IsOrder most v e.moves.items state
  pub leaves : ending_of e ≡ ending_in (count_of v) state
  -- a run ends there
  pub run : (ns : List ℕ) × (w : V) × IsRun choice v ns w × IsEnd choice w × (ending_in (count_of v) w ≡ ending_of e)
  -- in no run to such an end are there fewer turns that others can notice
  pub fewest : (ns : List ℕ) (w : V) → IsRun choice v ns w → IsEnd choice w → ending_in (count_of v) w ≡ ending_of e
      → length e.moves.items ≤ noticed_turns v ns

-- moves lead to n states: `at 0`, `at 1` and on, no two of them the same
pub record IsCount (most : ℕ) (v : V) (n : ℕ) : Type 0 where
  pub at : ℕ → V
  pub reached : (i : ℕ) → i < n → (ks : List ℕ) × IsOrder most v ks (at i)
  pub complete : (ks : List ℕ) (t : V) → IsOrder most v ks t → (i : ℕ) × (i < n) × (at i ≡ t)
  pub distinct : (i j : ℕ) → i < j → j < n → at i ≢ at j

-- a report on every run
pub record IsReport (most : ℕ) (v : V) (r : Report) : Type 0 where
  pub states : IsCount most v r.states
  -- it has a circle exactly if some run leads to one
  pub circle : IsCircleFound most v r.circle
  -- each end is one of a run
  pub each : All (IsEndFound most v) r.ends.items
  -- and each end of a run is there
  pub complete : (ns : List ℕ) (w : V) → IsRun choice v ns w → IsEnd choice w → Contains (map ending_of r.ends.items) (ending_in (count_of v) w)
  -- once
  pub apart : AllPairs (λ d e. ending_of d ≢ ending_of e) r.ends.items

-- why no move can be made from a state
abbrev pub IsReason : V → Reason → Type 0
IsReason t (States n) = ⊥
IsReason t (Typed line) = ⊥
IsReason t (Limit n) = has_limit t.machine.world n ≡ true
IsReason t (Clock n) = (can_run t.machine.world n ≡ true) × (reads_clock t.machine.world n ≡ true)
IsReason t (Turns n) = is_quiet t n ≡ true

-- the first state from which no move can be made, for that reason
pub record IsObstacle (most : ℕ) (v : V) (g : GivenUp) : Type 0 where
  pub state : V
  pub order : IsOrder most v g.moves.items state
  pub reason : IsReason state g.reason
  -- no other moves to one are fewer, or as many and smaller at the first difference
  pub least : (ks : List ℕ) (t : V) → IsOrder most v ks t → is_clear (count_of v) t ≡ false → IsNotBehind g.moves.items ks

-- moves lead to more states than `limit`; or characters are at a line; or there is such a state
abbrev pub IsGivenUpFor : ℕ → ℕ → V → GivenUp → Reason → Type 0
IsGivenUpFor most limit v g (States n) =
    (n ≡ limit) × HasMore (count_of v) (next most (count_of v)) (settled most (count_of v) (erased v)) limit
IsGivenUpFor most limit v g (Typed line) = (line < LINES) × (rings_of v.machine.world.lines line ≢ no_characters)
IsGivenUpFor most limit v g (Limit n) = IsObstacle most v g
IsGivenUpFor most limit v g (Clock n) = IsObstacle most v g
IsGivenUpFor most limit v g (Turns n) = IsObstacle most v g

-- what a look at every order gives
abbrev pub IsLooked : ℕ → ℕ → V → Looked → Type 0
IsLooked most limit v (Whole r) = IsReport most v r × (r.states ≤ limit)
IsLooked most limit v (GaveUp g) = IsGivenUpFor most limit v g g.reason
