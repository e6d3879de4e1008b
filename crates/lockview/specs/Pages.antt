-- The page that is written of a script, by what is asked for (this project's profile).
use Rattle.std.specs.Prelude.{◌≡◌, ◌≤◌, ℕ, List, map, Option, Some, None, unwrap_or}
use Rattle.std.specs.Io.KnownBytes.{Appends}
use Rattle.std.specs.List.{All}
use Rattle.lock_bars.specs.Arrows.{HasLock, wait_of, waits_in}
use Rattle.lock_bars.specs.Courses.{course, line_columns, requests_behind}
use Rattle.lock_bars.specs.Lanes.{lanes_of, row_of}
use Rattle.lock_bars.specs.declared.drawing.Drawing.{Drawing}
use Rattle.lock_bars.specs.declared.errors.TheConstants.{MOST_LINES}
use Rattle.lock_svg.specs.Pictures.{IsPicture}
use Rattle.lock_svg.specs.declared.along.Along.TheVariants.{Script}
use Rattle.machine.specs.Setups.{Setup}
use Rattle.script_reasons.specs.Pages.{IsExplained}
use Rattle.wait_graph.specs.Graphs.{Shows}
use Rattle.lockview.specs.declared.arguments.Form.{Form}
use Rattle.lockview.specs.declared.arguments.Form.TheVariants.{Svg, Text, Explained}

-- ---- the drawing of a script

-- of one of `lockmon queue`: its bars along its lines, its lanes, and the waits after the line that is asked for, each with its
-- lock
pub record IsDrawingOf (at : Option ℕ) (script : List ℕ) (drawing : Drawing) : Type 0 where
  pub bars : drawing.bars.items ≡ (course script).bars
  pub columns : drawing.columns.items ≡ line_columns (course script).lines
  pub lanes : map row_of drawing.lanes.items ≡ lanes_of (course script).bars
  pub waits : Shows (requests_behind drawing.at script) drawing.graph
  pub arrows : map wait_of drawing.arrows.items ≡ waits_in drawing.graph
  pub locks : All (HasLock (requests_behind drawing.at script)) drawing.arrows.items
  pub line : drawing.at ≡ unwrap_or at (course script).lines

-- of one of `lockmon run`, on a machine of this size, no more is said than that its waits are after a line that is drawn
abbrev pub IsDrawn : Option Setup → Option ℕ → List ℕ → Drawing → Type 0
IsDrawn None at script drawing = IsDrawingOf at script drawing
IsDrawn (Some setup) at script drawing = drawing.at ≤ MOST_LINES

-- ---- the page

-- the picture of a drawing of the script
abbrev pub IsSvg : Option Setup → Option ℕ → List ℕ → List ℕ → Type 0
IsSvg machine at script page = (drawing : Drawing) × IsDrawn machine at script drawing × IsPicture drawing Script page

-- a script of `lockmon queue` with its answers and their reasons; of one of `lockmon run` nothing is said
abbrev pub IsExplainedOn : Option Setup → List ℕ → List ℕ → Type 0
IsExplainedOn None script page = IsExplained script page
IsExplainedOn (Some setup) script page = Unit {0}

-- what is asked for of a script; of a picture as text nothing is said
abbrev pub IsPage : Form → Option Setup → Option ℕ → List ℕ → List ℕ → Type 0
IsPage Svg machine at script page = IsSvg machine at script page
IsPage Text machine at script page = Unit {0}
IsPage Explained machine at script page = IsExplainedOn machine script page

-- and that is written, from o to o'
abbrev pub WritesPage : Form → Option Setup → Option ℕ → List ℕ → Option (List ℕ) → Option (List ℕ) → Type 0
WritesPage form machine at script o o' = (page : List ℕ) × IsPage form machine at script page × Appends o o' page
