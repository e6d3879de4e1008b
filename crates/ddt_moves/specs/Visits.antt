-- How often jobs came to the breakpoints that count (this project's profile).
use Rattle.std.specs.Prelude.{◌^◌, ◌+◌, ◌-◌, ◌++◌, ◌&&◌, ℕ, zero, suc, nat_le, nat_lt, not, min, Bool, true, false, List, [], ◌∷◌, map}
use Rattle.std.specs.Prelude.{Option, Some, None, if◌then◌else◌}
use Rattle.machine.specs.Between.{next_in}
use Rattle.machine.specs.Machine.{S, after}
use Rattle.machine.specs.Rounds.{rounds}
use Rattle.machine.specs.Views.{job_view}
use Rattle.ddt_timeline.specs.Histories.{History}
use Rattle.ddt_timeline.specs.Stops.{is_met, is_met_at, noted, stands_at}
use Rattle.ddt_timeline.specs.Timelines.{made, steps_of}
use Rattle.ddt_timeline.specs.declared.entries.Entry.{Entry}
use Rattle.ddt_timeline.specs.declared.stops.StopCondition.TheVariants.{At}
use Rattle.ddt_moves.specs.RunStops.{watched}
use Rattle.ddt_moves.specs.StopLists.{or_slot}
use Rattle.ddt_moves.specs.declared.stop_lists.Breakpoint.{Breakpoint}
use Rattle.ddt_moves.specs.declared.stop_lists.StopList.{StopList}
use Rattle.ddt_moves.specs.declared.visits.Counter.{Counter}

-- so many visits, and one more where there was one, up to the most that 64 bits have
abbrev pub visits_with : Bool → ℕ → ℕ
visits_with true n = min (2 ^ 64 - 1) (n + 1)
visits_with false n = n

-- whether the job of a counter stands at its breakpoint in a state, as the condition wants
abbrev pub is_standing : S → Counter → Bool
is_standing s c = is_met false s None c.stop.stop

-- a counter that has seen the state before a step: a job that stands there, and did not behind the last step, was started there, which
-- is a visit
abbrev pub seen_before : S → Counter → Counter
seen_before s c = record c {
  stop = noted s c.stop;
  visits = visits_with (is_standing s c && not c.stood) c.visits;
  stands = is_standing s c;
}

-- and one that has seen the state behind a step in which a job ran: it is a visit where its stop, noted before the step, holds
abbrev pub stepped : S → Option ℕ → Counter → Counter
stepped s ran c = record c {
  stop = noted s c.stop;
  visits = visits_with (is_met_at s ran c.stop) c.visits;
  stood = stands_at (job_view s.world c.job) c.address;
}

-- whether its job came there often enough for a run to stop
abbrev pub is_due : Counter → Bool
is_due c = nat_le c.times c.visits

-- whether its job came there in a step, for one of the times that stop a run
abbrev pub comes_due : S → Option ℕ → Counter → Bool
comes_due s ran c = is_met_at s ran c.stop && is_due (stepped s ran c)

-- whether it ends a run before the first step, where the jobs from first to last were started or continued just now
abbrev pub is_due_at_start : ℕ → ℕ → Counter → Bool
is_due_at_start first last c = ((nat_le first c.job && nat_le c.job last) && c.stands) && is_due c

-- ---- all that has happened

-- a counter behind one thing that happens in a state: it sees the state before each step and behind it, and no other thing
abbrev pub behind_one : Entry → S → Counter → Counter
behind_one e s c = if nat_lt 0 (steps_of e) then stepped (made s e) (next_in s) (seen_before s c) else c

-- behind some things, from a state on; it sees the state behind them all too
abbrev pub behind_all : List Entry → S → Counter → Counter
behind_all [] s c = seen_before s c
behind_all (e ∷ es) s c = behind_all es (made s e) (behind_one e s c)

-- behind all that has happened
abbrev pub behind : History → Counter → Counter
behind h c = behind_all h.past h.boot c

-- the counter of the breakpoint in a slot, to which no job came yet
abbrev pub counter_of : ℕ → Breakpoint → Counter
counter_of slot b = record {
  slot = slot;
  job = b.job;
  address = b.address;
  times = b.times;
  stop = watched (At b.job b.address b.condition);
  visits = 0;
  stood = false;
  stands = false;
}

-- the counter of a breakpoint, where it counts
abbrev pub counter_if : Bool → ℕ → Breakpoint → List Counter
counter_if true slot b = counter_of slot b ∷ []
counter_if false slot b = []

-- and where it is set
abbrev pub counter_at : ℕ → Option Breakpoint → List Counter
counter_at slot (Some b) = counter_if (nat_lt 1 b.times) slot b
counter_at slot None = []

-- the counters of the slots from this one on
abbrev pub counters_from : ℕ → List (Option Breakpoint) → List Counter
counters_from slot [] = []
counters_from slot (b ∷ later) = counter_at slot b ++ counters_from (slot + 1) later

-- the counters of the user's breakpoints, in the order of their slots, behind all that has happened
abbrev pub counters : History → StopList → List Counter
counters h list = map (behind h) (counters_from 0 list.breakpoints)

-- ---- steps of a run

abbrev pub slot_if : Bool → ℕ → Option ℕ
slot_if true slot = Some slot
slot_if false slot = None

-- the slot of the first of some counters whose job came there in a step, for one of the times that stop a run
abbrev pub first_due : S → Option ℕ → List Counter → Option ℕ
first_due s ran [] = None
first_due s ran (c ∷ cs) = or_slot (slot_if (comes_due s ran c) c.slot) (first_due s ran cs)

-- the slot of the first of them that ends a run before the first step, where the jobs from first to last were started just now
abbrev pub first_due_at_start : ℕ → ℕ → List Counter → Option ℕ
first_due_at_start first last [] = None
first_due_at_start first last (c ∷ cs) = or_slot (slot_if (is_due_at_start first last c) c.slot) (first_due_at_start first last cs)

-- some counters behind so many rounds from a state on
abbrev pub counters_after : S → List Counter → ℕ → List Counter
counters_after s cs zero = cs
counters_after s cs (suc n) = map (stepped (after (rounds (suc n) true) s) (next_in (after (rounds n true) s))) (counters_after s cs n)

-- the slot of the first of them that was due in the last of these rounds; none was where none was made
abbrev pub due_behind : S → List Counter → ℕ → Option ℕ
due_behind s cs zero = None
due_behind s cs (suc n) = first_due (after (rounds (suc n) true) s) (next_in (after (rounds n true) s)) (counters_after s cs n)
