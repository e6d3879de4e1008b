-- Where a run ends, and why (this project's profile).
use Rattle.std.specs.Prelude.{◌≡◌, ◌<◌, ◌≤◌, ◌&&◌, ℕ, zero, suc, true, false, is_none, nat_le, List, Option, Some, None, IfSome, slice_get}
use Rattle.machine.specs.Machine.{S, after}
use Rattle.machine.specs.Rounds.{rounds}
use Rattle.ddt_timeline.specs.Runs.{some_go_on}
use Rattle.ddt_timeline.specs.Stops.{met_after}
use Rattle.ddt_timeline.specs.declared.stops.WatchedStop.{WatchedStop}
use Rattle.ddt_moves.specs.OtherEnds.{ends_for, facts_behind, if_breakpoint, told_cause}
use Rattle.ddt_moves.specs.Starts.{cause_in}
use Rattle.ddt_moves.specs.Visits.{due_behind}
use Rattle.ddt_moves.specs.declared.run_stops.StopCause.{StopCause}
use Rattle.ddt_moves.specs.declared.visits.Counter.{Counter}
use Rattle.ddt_moves.specs.declared.lock_watch.LockWatch.{LockWatch}
use Rattle.ddt_moves.specs.declared.run_stops.RunStops.{RunStops}
use Rattle.ddt_moves.specs.declared.runs.RunEnd.{RunEnd}
use Rattle.ddt_moves.specs.declared.stop_lists.StopList.{StopList}

-- the first of some stops that holds behind the last of so many rounds from a state on; none does where none was made
abbrev pub stop_behind : List WatchedStop → S → ℕ → Option ℕ
stop_behind stops s zero = None
stop_behind stops s (suc n) = met_after stops (after (rounds n true) s)

-- a run from a state on, to some stops and to what the user's stops have besides, of at most so many rounds: after none of its rounds
-- but the last did a stop hold, and the facts of none ended it; where a stop holds after the last one, the first that does is the
-- cause, and else what is to end it besides; it is cut where it has no cause and made as many rounds as it may; and where it has none
-- and made fewer, no job goes on
pub record IsEnd (s : S) (stops : RunStops) (list : StopList) (most : ℕ) (end : RunEnd) : Type 0 where
  pub few : end.made ≤ most
  pub none_over : (n : ℕ) → n < end.made → stop_behind stops.stops.items s n ≡ None
  pub none_told_over : (n : ℕ) → n < end.made → told_cause list (facts_behind s n) ≡ None
  pub cause : IfSome (stop_behind stops.stops.items s end.made) (λ i. end.cause ≡ slice_get stops.causes.items i)
  pub besides :
      stop_behind stops.stops.items s end.made ≡ None
      → ends_for list (after (rounds end.made true) s) (facts_behind s end.made) end.cause ≡ true
  pub cut : end.is_cut ≡ ((is_none (stop_behind stops.stops.items s end.made) && is_none end.cause) && nat_le most end.made)
  pub ends :
      end.made < most → stop_behind stops.stops.items s end.made ≡ None → end.cause ≡ None
      → some_go_on (after (rounds end.made true) s) ≡ false

-- why a run ends at the breakpoint in this slot, if one is given
abbrev pub cause_at_slot : StopList → Option ℕ → Option StopCause
cause_at_slot list (Some slot) = cause_in list.breakpoints slot
cause_at_slot list None = None

-- a run from a state on with these counters, to some stops and to the breakpoints that count: behind none of its rounds but the last was
-- one of them due; where no stop holds behind the last one, the cause is a breakpoint exactly where one is due there, and that is the
-- first that is
pub record IsCountedEnd (s : S) (counters : List Counter) (stops : RunStops) (list : StopList) (end : RunEnd) : Type 0 where
  pub none_over : (n : ℕ) → n < end.made → due_behind s counters n ≡ None
  pub cause :
      stop_behind stops.stops.items s end.made ≡ None
      → if_breakpoint end.cause ≡ cause_at_slot list (due_behind s counters end.made)

-- the end of a run of so many rounds that a watch ended
pub record IsWatchEnd (w : LockWatch) (n : ℕ) (end : RunEnd) : Type 0 where
  pub some : 1 ≤ n
  pub worked : w.has_failed ≡ false
  pub made : end.made ≡ n
  pub cause : end.cause ≡ w.cause
  pub cut : end.is_cut ≡ false
