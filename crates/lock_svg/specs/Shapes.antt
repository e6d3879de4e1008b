-- How a picture shows the bars of a lane (this project's profile).
use Rattle.std.specs.Prelude.{ℕ, ◌+◌, ◌-◌, ◌*◌, ◌/◌, ◌^◌, ◌++◌, ◌==◌, ◌&&◌, ◌||◌, Bool, List, [], codes, decimal, if◌then◌else◌}
use Rattle.std.specs.Prelude.{min, nat_lt, string_bytes}
use Rattle.std.specs.List.{flat_map}
use Rattle.lock_queue.specs.Keys.{same_key}
use Rattle.lock_bars.specs.Bars.{begins_with_grant}
use Rattle.lock_bars.specs.Columns.{column_text}
use Rattle.lock_bars.specs.declared.bars.Bar.{Bar}
use Rattle.lock_bars.specs.declared.columns.Column.{Column}
use Rattle.lock_bars.specs.declared.holds.Hold.{Hold}
use Rattle.lock_bars.specs.declared.lanes.Lane.{Lane}
use Rattle.lock_svg.specs.Words.{class_of, text_of}
use Rattle.lock_svg.specs.Xml.{xml_text}
use Rattle.lock_svg.specs.declared.along.Along.{Along}
use Rattle.lock_svg.specs.declared.frame.Frame.{Frame}
use Rattle.lock_svg.specs.declared.area.Area.{Area}
use Rattle.lock_svg.specs.declared.frame.TheConstants.{BAR, LANE, LINE_TOP}

-- the largest place is that of the largest number
abbrev pub bounded : ℕ → ℕ
bounded n = min n (2 ^ 64 - 1)

-- where a column begins
abbrev pub x_of : Frame → ℕ → ℕ
x_of frame column = bounded (frame.left + bounded ((column - 1) * frame.column))

-- a rectangle
unfoldable pub area_text : Area → List ℕ
area_text area =
    codes "x=\"" ++ decimal area.x ++ codes "\" y=\"" ++ decimal area.y ++ codes "\" width=\"" ++ decimal area.width
    ++ codes "\" height=\"" ++ decimal area.height ++ codes "\""

-- where a bar is drawn in the lane that begins at a height: over its columns, in the middle of the lane
abbrev pub area_of : Frame → Bar → ℕ → Area
area_of frame bar height = record {
  x = x_of frame bar.from;
  y = bounded (height + (LANE - BAR) / 2);
  width = x_of frame bar.until - x_of frame bar.from;
  height = BAR;
}

-- a bar of a class, and what is said of it
abbrev pub bar_box : List ℕ → Area → List ℕ → List ℕ
bar_box class area text =
    codes "<rect class=\"" ++ class ++ codes "\" " ++ area_text area ++ codes " rx=\"2\"><title>" ++ text ++ codes "</title></rect>\n"

-- how much of a pool it has, in the middle of it, where there is room
abbrev pub amount_class : Hold → List ℕ
amount_class hold = if hold.owns then codes "amount" else codes "amount asked"

abbrev pub amount_label : Hold → Area → List ℕ
amount_label hold area =
    if hold.amount == 0 || nat_lt area.width 20
    then []
    else
    codes "<text class=\"" ++ amount_class hold ++ codes "\" x=\"" ++ decimal (bounded (area.x + area.width / 2)) ++ codes "\" y=\""
    ++ decimal (bounded (area.y + 11)) ++ codes "\">" ++ decimal hold.amount ++ codes "</text>\n"

-- a bar whose lock has this label, in the lane that begins at a height
unfoldable pub bar_shape : Frame → Along → List Column → Bar → List ℕ → ℕ → List ℕ
bar_shape frame along columns bar label height =
    bar_box (class_of bar.hold) (area_of frame bar height) (text_of along columns bar label)
    ++ amount_label bar.hold (area_of frame bar height)

-- the sign of a grant, at a place, and at the beginning of a column of a lane
abbrev pub sign_at : ℕ → ℕ → List ℕ
sign_at x y =
    codes "<path class=\"grant\" transform=\"translate(" ++ decimal x ++ codes " " ++ decimal y ++ codes ")\" d=\"M0 -7L6 0L0 7L-6 0z\"/>\n"

unfoldable pub grant_sign : Frame → ℕ → ℕ → List ℕ
grant_sign frame column height = sign_at (x_of frame column) (bounded (height + LANE / 2))

-- a bar of a lane's job, on the lane's lock
abbrev pub is_of : Lane → Bar → Bool
is_of lane bar = bar.hold.job == lane.job && same_key bar.hold.key lane.key

-- the shape of a bar in a lane that begins at a height; nothing where the bar is of another lane
abbrev pub shape_in : Frame → Along → List Column → Lane → ℕ → Bar → List ℕ
shape_in frame along columns lane height bar =
    if is_of lane bar then bar_shape frame along columns bar (string_bytes lane.label) height else []

-- the sign of a bar in a lane where it begins with a grant
abbrev pub sign_in : Frame → List Bar → Lane → ℕ → Bar → List ℕ
sign_in frame bars lane height bar = if is_of lane bar && begins_with_grant bars bar then grant_sign frame bar.from height else []

-- the bars of a lane: each one that is of it, in their order, and no other
abbrev pub bar_shapes : Frame → Along → List Column → List Bar → Lane → ℕ → List ℕ
bar_shapes frame along columns bars lane height = flat_map (shape_in frame along columns lane height) bars

-- and the signs on them
abbrev pub grant_signs : Frame → List Bar → Lane → ℕ → List ℕ
grant_signs frame bars lane height = flat_map (sign_in frame bars lane height) bars

-- where the ground of a column that begins at an edge is drawn: behind all lanes, and the numbers above them
abbrev pub ground_of : Frame → ℕ → Area
ground_of frame edge = record { x = edge; y = LINE_TOP; width = frame.column; height = frame.lanes_end - LINE_TOP }

-- what is said of a column where there is a script: its line
unfoldable pub line_text : Column → List ℕ → List ℕ
line_text column line = codes "line " ++ column_text column ++ codes ": " ++ xml_text line

-- the ground of a column, which shows that
abbrev pub line_ground : Area → Column → List ℕ → List ℕ
line_ground area column line =
    codes "<rect class=\"line\" " ++ area_text area ++ codes "><title>" ++ line_text column line ++ codes "</title></rect>\n"
