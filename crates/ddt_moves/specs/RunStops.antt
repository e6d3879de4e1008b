-- The stops of a run of the debugger: those of a command, and those that stand in the tables of the user (this project's profile).
use Rattle.std.specs.Prelude.{◌++◌, ◌+◌, ℕ, nat_lt, Bool, true, false, List, [], ◌∷◌, map, Option, Some, None}
use Rattle.std.specs.Prelude.{if◌then◌else◌, slice_get}
use Rattle.std.specs.List.{flat_map}
use Rattle.machine.specs.Machine.{S}
use Rattle.machine.specs.Views.{word_in}
use Rattle.ddt_timeline.specs.declared.stops.StopCondition.{StopCondition}
use Rattle.ddt_timeline.specs.declared.stops.StopCondition.TheVariants.{At, Turn, End, Word, Input}
use Rattle.ddt_timeline.specs.declared.stops.WatchedStop.{WatchedStop}
use Rattle.ddt_moves.specs.declared.run_stops.StopCause.{StopCause}
use Rattle.ddt_moves.specs.declared.run_stops.StopCause.TheVariants as cause
use Rattle.ddt_moves.specs.declared.stop_lists.Breakpoint.{Breakpoint}
use Rattle.ddt_moves.specs.declared.stop_lists.StopList.{StopList}
use Rattle.ddt_moves.specs.declared.stop_lists.WatchedWord.{WatchedWord}

-- a stop of a run that has not begun
abbrev pub watched : StopCondition → WatchedStop
watched one = record { stop = one; stood = false }

-- the stop of a breakpoint, where each time counts
abbrev pub stop_if_each : Bool → Breakpoint → List StopCondition
stop_if_each true b = []
stop_if_each false b = At b.job b.address b.condition ∷ []

-- the stop of a breakpoint, where it is set and each time counts: one with a condition holds where that holds
abbrev pub stop_at : Option Breakpoint → List StopCondition
stop_at (Some b) = stop_if_each (nat_lt 1 b.times) b
stop_at None = []

-- the stop of a watched word: it is no longer what it is now
abbrev pub stop_of_word : S → WatchedWord → StopCondition
stop_of_word s w = Word w.job w.address (word_in s.world w.job w.address)

-- the stops of the user's tables: the breakpoints of all jobs that stop each time, and the watched words as they are now
abbrev pub stops_in : S → StopList → List StopCondition
stops_in s list = flat_map stop_at list.breakpoints ++ map (stop_of_word s) list.words.items

-- ---- why a run stopped

-- the cause where a stop ended a run: that of the breakpoint of this number, or 0 where it is that of none
abbrev pub cause_of : ℕ → StopCondition → StopCause
cause_of number (At job address condition) = if nat_lt 0 number then cause.Breakpoint number job address else cause.Own
cause_of number (Turn job) = cause.Own
cause_of number (End job) = cause.Own
cause_of number (Word job address was) = cause.Word job address was
cause_of number Input = cause.Input

-- those of the stops of some breakpoints, numbered from this number on
abbrev pub causes_from : ℕ → List (Option Breakpoint) → List StopCause
causes_from number [] = []
causes_from number (b ∷ later) = map (cause_of number) (stop_at b) ++ causes_from (number + 1) later

-- those of the stops of the user's tables
abbrev pub causes_in : S → StopList → List StopCause
causes_in s list =
    causes_from 1 list.breakpoints ++ map (cause_of 0) (map (stop_of_word s) list.words.items)

-- the one of the stop at a position, if a stop ended the run
abbrev pub cause_at : List StopCause → Option ℕ → Option StopCause
cause_at causes (Some position) = slice_get causes position
cause_at causes None = None
