-- What ends a run besides its stops: grants, circles of waits, calls on a lock, and breakpoints that count (this project's profile).
use Rattle.std.specs.Prelude.{◌≡◌, ◌==◌, ◌+◌, ◌-◌, ◌&&◌, ◌||◌, ℕ, zero, suc, nat_lt, Bool, true, false, is_none, is_some}
use Rattle.std.specs.Prelude.{List, [], map, slice_index_or}
use Rattle.std.specs.Prelude.{Option, Some, None, if◌then◌else◌}
use Rattle.std.specs.List.{list_any}
use Rattle.machine.specs.Machine.{S, after}
use Rattle.machine.specs.Rounds.{rounds}
use Rattle.machine.specs.Between.{next_in}
use Rattle.run_events.specs.Runs.{facts_of_round}
use Rattle.run_events.specs.declared.facts.Fact.{Fact}
use Rattle.run_events.specs.declared.facts.Fact.TheVariants as fact
use Rattle.ddt_timeline.specs.Stops.{is_met}
use Rattle.ddt_timeline.specs.declared.stops.StopCondition.TheVariants.{At}
use Rattle.ddt_moves.specs.declared.lock_watch.LockWatch.{LockWatch}
use Rattle.ddt_moves.specs.declared.run_stops.StopCause.{StopCause}
use Rattle.ddt_moves.specs.declared.run_stops.StopCause.TheVariants as cause
use Rattle.ddt_moves.specs.declared.stop_lists.Breakpoint.{Breakpoint}
use Rattle.ddt_moves.specs.declared.stop_lists.StopList.{StopList}
use Rattle.ddt_moves.specs.declared.visits.Counter.{Counter}
use Rattle.ddt_moves.specs.LockCalls.{stands_at_lock}
use Rattle.ddt_moves.specs.Visits.{first_due, stepped}

-- whether a fact is a grant
abbrev pub is_granted : Fact → Bool
is_granted (fact.Granted r) = true
is_granted (fact.Called c) = false
is_granted (fact.LimitEnded job id) = false
is_granted (fact.Left r) = false
is_granted (fact.CircleClosed job) = false
is_granted (fact.Stopped job why) = false
is_granted (fact.LoggedOut job) = false

-- whether it is that a circle of waits closed
abbrev pub is_closed : Fact → Bool
is_closed (fact.CircleClosed job) = true
is_closed (fact.Called c) = false
is_closed (fact.LimitEnded job id) = false
is_closed (fact.Left r) = false
is_closed (fact.Granted r) = false
is_closed (fact.Stopped job why) = false
is_closed (fact.LoggedOut job) = false

-- why a run ends at the facts of a round, if it does: where a circle of waits closed, or at a grant, if runs stop there
abbrev pub told_cause : StopList → List Fact → Option StopCause
told_cause list facts =
    if list_any is_closed facts && list.circles then Some cause.Circle
    else if list_any is_granted facts && list.grants then Some cause.Grant
    else None

-- the facts of the last of so many rounds from a state on
abbrev pub facts_behind : S → ℕ → List Fact
facts_behind s zero = []
facts_behind s (suc n) = facts_of_round (after (rounds n true) s)

-- whether the job of a breakpoint stands there in a state, as the condition wants
abbrev pub stands : S → Breakpoint → Bool
stands s b = is_met false s None (At b.job b.address b.condition)

-- whether a breakpoint is set that counts, at this address of this job, and the job stands there
abbrev pub counts_at : S → ℕ → ℕ → Option Breakpoint → Bool
counts_at s job address (Some b) = ((b.job == job && b.address == address) && nat_lt 1 b.times) && stands s b
counts_at s job address None = false

-- why a run ends at a breakpoint of this number, if it is set
abbrev pub cause_of_breakpoint : ℕ → Option Breakpoint → Option StopCause
cause_of_breakpoint number (Some b) = Some (cause.Breakpoint number b.job b.address)
cause_of_breakpoint number None = None

-- and why at one in a slot, if it is set and counts, and its job stands there
abbrev pub counted_at : S → ℕ → Option Breakpoint → Option StopCause
counted_at s slot (Some b) = if nat_lt 1 b.times && stands s b then cause_of_breakpoint (slot + 1) (Some b) else None
counted_at s slot None = None

abbrev pub counted_cause : StopList → S → ℕ → Option StopCause
counted_cause list s slot = counted_at s slot (slice_index_or list.breakpoints slot None)

-- and in this slot, if one is given
abbrev pub counted_in : StopList → S → Option ℕ → Option StopCause
counted_in list s (Some slot) = counted_cause list s slot
counted_in list s None = None

-- the cause of a run, where that is a breakpoint
abbrev pub if_breakpoint : Option StopCause → Option StopCause
if_breakpoint None = None
if_breakpoint (Some (cause.Breakpoint number job address)) = Some (cause.Breakpoint number job address)
if_breakpoint (Some (cause.Word job address was)) = None
if_breakpoint (Some cause.Circle) = None
if_breakpoint (Some cause.Own) = None
if_breakpoint (Some cause.Input) = None
if_breakpoint (Some (cause.Call job)) = None
if_breakpoint (Some cause.Grant) = None

-- whether this may be why a run ends in a state where none of its stops holds, if it ends there, by the facts of the round that led
-- there: at a breakpoint of this number that counts, where its job stands; where this job stands before a call on the lock of the
-- list; where a circle of waits closed, or at a grant, if runs stop there. Where one of these two is so, it ends
abbrev pub ends_for : StopList → S → List Fact → Option StopCause → Bool
ends_for list s facts None = is_none (told_cause list facts)
ends_for list s facts (Some (cause.Breakpoint number job address)) =
    counts_at s job address (slice_index_or list.breakpoints (number - 1) None)
ends_for list s facts (Some (cause.Word job address was)) = false
ends_for list s facts (Some cause.Circle) = list_any is_closed facts && list.circles
ends_for list s facts (Some cause.Own) = false
ends_for list s facts (Some cause.Input) = false
ends_for list s facts (Some (cause.Call job)) = stands_at_lock list.lock s job
ends_for list s facts (Some cause.Grant) = list_any is_granted facts && list.grants

-- whether a run ends at a grant
abbrev pub is_grant : Option StopCause → Bool
is_grant None = false
is_grant (Some (cause.Breakpoint number job address)) = false
is_grant (Some (cause.Word job address was)) = false
is_grant (Some cause.Circle) = false
is_grant (Some cause.Own) = false
is_grant (Some cause.Input) = false
is_grant (Some (cause.Call job)) = false
is_grant (Some cause.Grant) = true

-- ---- a watch

-- the user's stops that it has
abbrev pub list_of : LockWatch → StopList
list_of w = w.list.now

-- the facts of the round that it made last
abbrev pub facts_of : LockWatch → List Fact
facts_of w = w.facts.items

-- its breakpoints that count
abbrev pub counters_of : LockWatch → List Counter
counters_of w = w.counters.items

-- why it ends a run at one of them, behind a round in which a job ran: that is the first that is due
abbrev pub due_cause : LockWatch → S → Option ℕ → Option StopCause
due_cause w s ran = counted_in (list_of w) s (first_due s ran (counters_of w))

-- a watch makes a round from a state m, which leads to t, and says whether the run ends there: where it could look, it has the facts
-- of the round, it ends the run exactly where it has a cause, and has one wherever these facts are one. Its counters see the round,
-- and it ends the run at a breakpoint exactly where one of them is due
pub record HasLooked (old new : LockWatch) (m t : S) (is_end : Bool) : Type 0 where
  pub list : list_of new ≡ list_of old
  pub ended : is_end ≡ (new.has_failed || is_some new.cause)
  pub facts : new.has_failed ≡ false → facts_of new ≡ facts_of_round m
  pub cause : new.has_failed ≡ false → ends_for (list_of old) t (facts_of_round m) new.cause ≡ true
  pub counters : counters_of new ≡ map (stepped t (next_in m)) (counters_of old)
  pub due : new.has_failed ≡ false → if_breakpoint new.cause ≡ due_cause old t (next_in m)
