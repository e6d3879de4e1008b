-- What a picture says of a bar, and in which colour it shows it (this project's profile).
use Rattle.std.specs.Prelude.{ℕ, ◌-◌, ◌++◌, ◌==◌, Bool, List, [], Option, Some, None, codes, decimal, length, if◌then◌else◌}
use Rattle.std.specs.Prelude.{slice_get, unwrap_or}
use Rattle.lock_bars.specs.Columns.{column_text}
use Rattle.lock_bars.specs.declared.bars.Bar.{Bar}
use Rattle.lock_bars.specs.declared.columns.Column.{Column}
use Rattle.lock_bars.specs.declared.holds.Hold.{Hold}
use Rattle.lock_svg.specs.declared.along.Along.{Along}
use Rattle.lock_svg.specs.declared.along.Along.TheVariants.{Script, Run}
use Rattle.wait_graph.specs.declared.graph.Wait.{Wait}

-- the class of a bar, which gives its colour: that of an owner, of one who shares, or of one who waits
abbrev pub class_of : Hold → List ℕ
class_of hold = if hold.owns then (if hold.shared then codes "owns shared" else codes "owns") else codes "waits"

-- the class of an arrow, which gives its line and its colour: of a wait for an owner, or for one that asked before; and whether
-- the wait is in a circle
abbrev pub arrow_class : Wait → List ℕ
arrow_class wait =
    if wait.is_hard
    then (if wait.is_in_circle then codes "wait hard circle" else codes "wait hard")
    else (if wait.is_in_circle then codes "wait soft circle" else codes "wait soft")

-- ---- what is said of a bar where a pointer rests on it

-- which job it is, and what it does
abbrev pub does_text : Hold → List ℕ
does_text hold = if hold.owns then codes " owns" else codes " waits for"

abbrev pub who_text : Hold → List ℕ
who_text hold = codes "job " ++ decimal hold.job ++ does_text hold

-- whether it shares the lock and in which group, and how much of a pool it has
abbrev pub shared_text : Bool → List ℕ
shared_text shared = if shared then codes ", shared" else []

abbrev pub group_text : ℕ → List ℕ
group_text group = if group == 0 then [] else codes " in group " ++ decimal group

abbrev pub amount_text : ℕ → List ℕ
amount_text amount = if amount == 0 then [] else codes ", " ++ decimal amount ++ codes " of a pool"

abbrev pub how_text : Hold → List ℕ
how_text hold = shared_text hold.shared ++ group_text hold.group ++ amount_text hold.amount

-- how long, in columns that are called by this word
abbrev pub span_text : List ℕ → Column → Column → List ℕ
span_text unit from last = codes ", " ++ unit ++ codes "s " ++ column_text from ++ codes " to " ++ column_text last

-- what is said of a holding of the lock with this label
unfoldable pub bar_text : Hold → List ℕ → List ℕ → Column → Column → List ℕ
bar_text hold label unit from last = who_text hold ++ codes " " ++ label ++ how_text hold ++ span_text unit from last

-- the word for a column
abbrev pub unit_text : Along → List ℕ
unit_text Script = codes "line"
unit_text Run = codes "tick"

-- the column of a number, counted from 1
abbrev pub column_at : List Column → ℕ → Option Column
column_at columns number = slice_get columns (number - 1)

-- the tick before that of the next column, or the last column where there is none
abbrev pub tick_before : List Column → Option Column → Option Column
tick_before columns (Some next) = Some (record { line = next.line - 1; tick = 0 })
tick_before columns None = slice_get columns (length columns - 1)

-- the last line or tick of a bar that ends before a column. A tick of a run that has no column leaves the locks as they
-- were, so a bar lasts over it
abbrev pub last_before : Along → List Column → ℕ → Option Column
last_before Script columns until = column_at columns (until - 1)
last_before Run columns until = tick_before columns (column_at columns until)

-- the first and the last line or tick of a bar; each bar of a drawing has them
abbrev pub first_of : List Column → Bar → Column
first_of columns bar = unwrap_or (column_at columns bar.from) (record { line = bar.from; tick = 0 })

abbrev pub last_of : Along → List Column → Bar → Column
last_of along columns bar = unwrap_or (last_before along columns bar.until) (first_of columns bar)

-- what is said of a bar whose lock has this label
abbrev pub text_of : Along → List Column → Bar → List ℕ → List ℕ
text_of along columns bar label = bar_text bar.hold label (unit_text along) (first_of columns bar) (last_of along columns bar)
