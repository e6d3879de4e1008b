-- The bars of a picture: over which lines a job owned a lock or waited for it (this project's profile).
use Rattle.std.specs.Prelude.{ℕ, ◌+◌, Bool, not, ◌==◌, ◌&&◌, if◌then◌else◌, List, [], ◌∷◌, ◌++◌, map, nat_le, nat_lt}
use Rattle.std.specs.List.{flat_map, list_any}
use Rattle.lock_queue.specs.Keys.{same_key}
use Rattle.lock_queue.specs.declared.request.Request.{Request}
use Rattle.lock_bars.specs.Holds.{holds_of, same_hold}
use Rattle.lock_bars.specs.declared.bars.Bar.{Bar}
use Rattle.lock_bars.specs.declared.holds.Hold.{Hold}

-- a bar that reaches to a line is extended over it where its holding is one of those after the line
abbrev pub extended : ℕ → List Hold → Bar → Bar
extended line holds bar =
    if bar.until == line && list_any (same_hold bar.hold) holds then record bar { until = line + 1 } else bar

-- a bar shows this holding and ends with this line
abbrev pub shows : ℕ → Hold → Bar → Bool
shows line hold bar = bar.until == line + 1 && same_hold bar.hold hold

-- a bar starts at a line for a holding after it that no bar shows
abbrev pub started : ℕ → List Bar → Hold → List Bar
started line bars hold =
    if list_any (shows line hold) bars then [] else record { hold = hold; from = line; until = line + 1 } ∷ []

-- the bars after a line, from those before it and the holdings after it
abbrev pub bars_with : ℕ → List Bar → List Hold → List Bar
bars_with line bars holds = map (extended line holds) bars ++ flat_map (started line (map (extended line holds) bars)) holds

-- the bars after a line, from those before it and the requests that are present after it
abbrev pub bars_after : ℕ → List Bar → List Request → List Bar
bars_after line bars requests = bars_with line bars (holds_of requests)

-- a bar shows a holding over a line
abbrev pub is_over : ℕ → Hold → Bar → Bool
is_over line hold bar = (nat_le bar.from line && nat_lt line bar.until) && same_hold bar.hold hold

-- two bars are of one lane: one job's, on one lock
abbrev pub same_lane : Bar → Bar → Bool
same_lane a b = a.hold.job == b.hold.job && same_key a.hold.key b.hold.key

-- a bar begins with a grant where its job owns the lock from the line on to which it waited for it
abbrev pub ends_at_grant : Bar → Bar → Bool
ends_at_grant bar earlier = (not earlier.hold.owns && earlier.until == bar.from) && same_lane bar earlier

abbrev pub begins_with_grant : List Bar → Bar → Bool
begins_with_grant bars bar = bar.hold.owns && list_any (ends_at_grant bar) bars
