-- The lanes of a picture: a row for each job and each lock on which it has bars (this project's profile).
use Rattle.std.specs.Prelude.{ℕ, ◌==◌, ◌&&◌, Bool, not, if◌then◌else◌, List, [], ◌∷◌, ◌++◌, string_bytes}
use Rattle.std.specs.List.{flat_map, list_any}
use Rattle.lock_queue.specs.Waits.{jobs}
use Rattle.lock_queue.specs.declared.key.Key.{Key}
use Rattle.lock_bars.specs.Bars.{same_lane}
use Rattle.lock_bars.specs.Names.{label_text}
use Rattle.lock_bars.specs.declared.bars.Bar.{Bar}
use Rattle.lock_bars.specs.declared.lanes.Lane.{Lane}

-- the job, the lock and the label of a lane
pub record Row : Type 0 where
  pub job : ℕ
  pub key : Key
  pub label : List ℕ

-- a bar begins a lane of a job where it is the job's first on its lock, behind these bars
abbrev pub begins_lane : ℕ → List Bar → Bar → Bool
begins_lane job earlier bar = bar.hold.job == job && not (list_any (same_lane bar) earlier)

-- the row of a job and a lock
abbrev pub row_for : ℕ → Key → Row
row_for job key = record { job = job; key = key; label = label_text key }

-- the rows of a job's lanes, by its bars behind these ones: each of its locks once, in the order of their first bars
abbrev pub locks_behind : ℕ → List Bar → List Bar → List Row
locks_behind job earlier [] = []
locks_behind job earlier (bar ∷ later) =
    if begins_lane job earlier bar
    then row_for job bar.hold.key ∷ locks_behind job (earlier ++ bar ∷ []) later
    else locks_behind job (earlier ++ bar ∷ []) later

abbrev pub locks_of : List Bar → ℕ → List Row
locks_of bars job = locks_behind job [] bars

-- the lanes of all bars, by rising job
abbrev pub lanes_of : List Bar → List Row
lanes_of bars = flat_map (locks_of bars) jobs

-- the row that a lane is
abbrev pub row_of : Lane → Row
row_of lane = record { job = lane.job; key = lane.key; label = string_bytes lane.label }
