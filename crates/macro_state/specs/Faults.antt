-- Where faults are told.
use Rattle.std.specs.Prelude.{ℕ, Bool, ◌&&◌, List, nat_eq}
use Rattle.std.specs.List.{list_any}
use Rattle.macro_faults.specs.declared.reports.Report.{Report}
use Rattle.macro_state.specs.declared.state.OtherUse.{OtherUse}
use Rattle.macro_stream.specs.declared.places.Place.{Place}

-- whether a fault stands at this line and column
abbrev pub is_at : Place → Report → Bool
is_at place report = nat_eq report.place.line place.line && nat_eq report.place.column place.column

-- whether one of these faults is told at a place
abbrev pub is_told_at : List Report → Place → Bool
is_told_at faults place = list_any (is_at place) faults

-- whether a use of another machine's or another monitor's name is at this line and column
abbrev pub is_use_at : Place → ℕ → OtherUse → Bool
is_use_at place name other = nat_eq other.name.sixbit name && nat_eq other.place.line place.line && nat_eq other.place.column place.column

-- whether one of these uses is of a name at a place
abbrev pub is_used_at : List OtherUse → Place → ℕ → Bool
is_used_at others place name = list_any (is_use_at place name) others
