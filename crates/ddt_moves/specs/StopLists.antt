-- The stops that the user sets (this project's profile).
use Rattle.std.specs.Prelude.{ℕ, ◌+◌, ◌-◌, ◌==◌, ◌&&◌, nat_lt, not, Bool, true, false, is_none, List, [], ◌∷◌, ◌++◌, length}
use Rattle.std.specs.Prelude.{position, slice_set}
use Rattle.std.specs.Prelude.{Option, Some, None, if◌then◌else◌}
use Rattle.std.specs.List.{filter, list_any}
use Rattle.ddt_breakpoints.specs.declared.TheConstants.{BREAKPOINTS}
use Rattle.ddt_moves.specs.declared.stop_lists.Breakpoint.{Breakpoint}
use Rattle.ddt_moves.specs.declared.stop_lists.WatchedWord.{WatchedWord}

-- whether a breakpoint is set, and counts how often its job comes to it
abbrev pub counts : Option Breakpoint → Bool
counts (Some b) = nat_lt 1 b.times
counts None = false

-- whether a breakpoint is set at an address of a job
abbrev pub is_there : ℕ → ℕ → Option Breakpoint → Bool
is_there job address (Some b) = b.job == job && b.address == address
is_there job address None = false

abbrev pub or_slot : Option ℕ → Option ℕ → Option ℕ
or_slot (Some slot) other = Some slot
or_slot None other = other

-- the slot for a breakpoint: that of the one at the same address of its job, or else the first that is free
abbrev pub slot_for : ℕ → ℕ → List (Option Breakpoint) → Option ℕ
slot_for job address slots = or_slot (position (is_there job address) slots) (position is_none slots)

-- the slot of a breakpoint that is set by its number, or else the slot for it
abbrev pub slot_by : Option ℕ → Breakpoint → List (Option Breakpoint) → Option ℕ
slot_by (Some number) b slots = Some (number - 1)
slot_by None b slots = slot_for b.job b.address slots

-- the number of a slot, if there is this one
abbrev pub number_at : List (Option Breakpoint) → Option ℕ → Option ℕ
number_at slots (Some slot) = if nat_lt slot (length slots) then Some (slot + 1) else None
number_at slots None = None

-- the slots with a breakpoint set in one, if there is this one
abbrev pub with_breakpoint : Breakpoint → Option ℕ → List (Option Breakpoint) → List (Option Breakpoint)
with_breakpoint b (Some slot) slots = if nat_lt slot (length slots) then slice_set slots slot (Some b) else slots
with_breakpoint b None slots = slots

-- whether two words are the same: one address of one job
abbrev pub is_same : WatchedWord → WatchedWord → Bool
is_same word other = word.job == other.job && word.address == other.address

abbrev pub is_other : WatchedWord → WatchedWord → Bool
is_other word other = not (is_same word other)

-- the words that are watched where one is to be watched, or no longer if it is watched: it stands behind the others, if there is room
abbrev pub words_with : WatchedWord → List WatchedWord → List WatchedWord
words_with word words =
    if list_any (is_same word) words then filter (is_other word) words
    else if nat_lt (length words) BREAKPOINTS then words ++ word ∷ [] else words

-- whether it is watched then; none where there is no room
abbrev pub is_watched_then : WatchedWord → List WatchedWord → Option Bool
is_watched_then word words =
    if list_any (is_same word) words then Some false else if nat_lt (length words) BREAKPOINTS then Some true else None
