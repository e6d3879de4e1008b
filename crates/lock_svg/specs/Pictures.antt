-- What a picture has (this project's profile).
use Rattle.std.specs.Prelude.{◌≡◌, ℕ, ◌+◌, ◌-◌, ◌*◌, ◌++◌, ◌==◌, ◌&&◌, not, Bool, List, [], ◌∷◌, codes, decimal, if◌then◌else◌}
use Rattle.std.specs.Prelude.{string_bytes}
use Rattle.lock_bars.specs.declared.bars.Bar.{Bar}
use Rattle.lock_bars.specs.declared.columns.Column.{Column}
use Rattle.lock_bars.specs.declared.drawing.Drawing.{Drawing}
use Rattle.lock_bars.specs.declared.lanes.Lane.{Lane}
use Rattle.lock_svg.specs.Graphs.{graph_text}
use Rattle.lock_svg.specs.Shapes.{area_text, bar_shapes, bounded, grant_signs}
use Rattle.lock_svg.specs.declared.along.Along.{Along}
use Rattle.lock_svg.specs.declared.along.Along.TheVariants.{Run}
use Rattle.lock_svg.specs.declared.area.Area.{Area}
use Rattle.lock_svg.specs.declared.frame.Frame.{Frame}
use Rattle.lock_svg.specs.declared.frame.TheConstants.{GAP, LANE, MARGIN, TOP}

-- ---- a lane

-- the number of its job, if it is the job's first
unfoldable pub job_text : ℕ → Bool → ℕ → List ℕ
job_text job is_first y =
    if is_first
    then codes "<text class=\"job\" x=\"" ++ decimal MARGIN ++ codes "\" y=\"" ++ decimal y ++ codes "\">job " ++ decimal job ++ codes "</text>"
    else []

-- the name of its lock
unfoldable pub name_text : ℕ → ℕ → List ℕ → List ℕ
name_text x y label =
    codes "<text class=\"lock\" x=\"" ++ decimal x ++ codes "\" y=\"" ++ decimal y ++ codes "\">" ++ label ++ codes "</text>\n"

-- its ground
abbrev pub ground_text : Frame → ℕ → Area
ground_text frame height = record {
  x = frame.left;
  y = bounded (height + 1);
  width = bounded (frame.column * frame.columns);
  height = LANE - 2;
}

-- the ground, the job and the label of a lane, the last two at a height, and the label at a place
abbrev pub names_at : Area → ℕ → Bool → ℕ → ℕ → List ℕ → List ℕ
names_at area job is_first y x label =
    codes "<rect class=\"row\" " ++ area_text area ++ codes "/>\n" ++ job_text job is_first y ++ name_text x y label

abbrev pub names_text : Frame → Lane → Bool → ℕ → List ℕ
names_text frame lane is_first height =
    names_at (ground_text frame height) lane.job is_first (bounded (height + 15)) (frame.left - 8) (string_bytes lane.label)

-- the names of the lane that begins at a height, its bars, and the signs on them
abbrev pub lane_text : Frame → Along → List Column → List Bar → Lane → Bool → ℕ → List ℕ
lane_text frame along columns bars lane is_first height =
    names_text frame lane is_first height ++ bar_shapes frame along columns bars lane height ++ grant_signs frame bars lane height

-- ---- the lanes

-- the top of a lane after one of a job that ends at a height: there is a gap between the lanes of two jobs
abbrev pub lane_top : ℕ → ℕ → Lane → ℕ
lane_top height last lane = if not (lane.job == last) && not (last == 0) then bounded (height + GAP) else height

-- each lane, one below the other, after one of a job that ends at a height
abbrev pub lanes_from : Frame → Along → List Column → List Bar → ℕ → ℕ → List Lane → List ℕ
lanes_from frame along columns bars height last [] = []
lanes_from frame along columns bars height last (lane ∷ more) =
    lane_text frame along columns bars lane (not (lane.job == last)) (lane_top height last lane)
    ++ lanes_from frame along columns bars (bounded (lane_top height last lane + LANE)) lane.job more

abbrev pub lanes_text : Frame → Along → Drawing → List ℕ
lanes_text frame along drawing = lanes_from frame along drawing.columns.items drawing.bars.items TOP 0 drawing.lanes.items

-- ---- the whole: by the measures of one frame it has each lane with its bars and signs, and the graph with each wait and each job
-- that waits or is waited for. The rest is the numbers of the columns, the headings and the legend

pub record IsPicture (drawing : Drawing) (along : Along) (page : List ℕ) : Type 0 where
  pub frame : Frame
  pub head : List ℕ
  pub middle : List ℕ
  pub foot : List ℕ
  pub whole : page
      ≡ codes "<svg" ++ head ++ lanes_text frame along drawing ++ middle ++ graph_text frame drawing.graph drawing.arrows.items ++ foot

-- the picture of a run is that of a drawing
abbrev pub IsRunPicture : List ℕ → Type 0
IsRunPicture page = (drawing : Drawing) × IsPicture drawing Run page
