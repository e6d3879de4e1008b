-- Lemmas on the shapes of a picture.
use Rattle.std.specs.Prelude.{codes}
use Rattle.std.proofs.Common.{◌≡◌, ◌<◌, ◌+◌, ◌++◌, ◌∙◌, ◌==◌, ℕ, Bool, not, List, ◌∷◌, [], ap, sym, append_assoc, append-nil}
use Rattle.lock_bars.specs.declared.bars.Bar.{Bar}
use Rattle.lock_bars.specs.declared.columns.Column.{Column}
use Rattle.lock_bars.specs.declared.drawing.Drawing.{Drawing}
use Rattle.lock_bars.specs.declared.holds.Hold.{Hold}
use Rattle.lock_bars.specs.declared.lanes.Lane.{Lane}
use Rattle.lock_bars.specs.declared.arrows.Arrow.{Arrow}
use Rattle.lock_svg.specs.Graphs.{arrow_of, graph_text, node_at}
use Rattle.lock_svg.specs.Pictures.{IsPicture, lane_text, lane_top, lanes_from, names_at}
use Rattle.lock_svg.specs.Shapes.{amount_label, bar_box, bounded, sign_at}
use Rattle.lock_svg.specs.declared.along.Along.{Along}
use Rattle.lock_svg.specs.declared.area.Area.{Area}
use Rattle.lock_svg.specs.declared.frame.Frame.{Frame}
use Rattle.lock_svg.specs.declared.frame.TheConstants.{LANE, TOP}
use Rattle.lock_svg.specs.declared.points.Point.{Point}

-- a bar and its amount, by equals
pub same_bar : (hold : Hold) (class class' text text' : List ℕ) (area area' : Area) → class ≡ class' → area ≡ area' → text ≡ text'
    → bar_box class area text ++ amount_label hold area ≡ bar_box class' area' text' ++ amount_label hold area'
same_bar hold class class' text text' area area' a b c =
    ap (λ k. bar_box k area text ++ amount_label hold area) a
    ∙ ap (λ p. bar_box class' p text ++ amount_label hold p) b
    ∙ ap (λ t. bar_box class' area' t ++ amount_label hold area') c

-- a sign, by equals
pub same_sign : (x x' y y' : ℕ) → x ≡ x' → y ≡ y' → sign_at x y ≡ sign_at x' y'
same_sign x x' y y' a b = ap (λ n. sign_at n y) a ∙ ap (λ n. sign_at x' n) b

-- an arrow, by equals
pub same_arrow : (class class' head head' : List ℕ) (arrow : Arrow) (from bend to at : Point) → class ≡ class' → head ≡ head'
    → arrow_of class head arrow from bend to at ≡ arrow_of class' head' arrow from bend to at
same_arrow class class' head head' arrow from bend to at a b =
    ap (λ k. arrow_of k head arrow from bend to at) a ∙ ap (λ h. arrow_of class' h arrow from bend to at) b

-- a job, by equals
pub same_node : (class class' : List ℕ) (at at' : Point) (foot foot' job : ℕ) → class ≡ class' → at ≡ at' → foot ≡ foot'
    → node_at class at foot job ≡ node_at class' at' foot' job
same_node class class' at at' foot foot' job a b c =
    ap (λ k. node_at k at foot job) a ∙ ap (λ (p : Point). node_at class' p foot job) b ∙ ap (λ n. node_at class' at' n job) c

-- the names of a lane, by equals
pub same_names : (ground ground' : Area) (job : ℕ) (first : Bool) (y y' x x' : ℕ) (label label' : List ℕ)
    → ground ≡ ground' → y ≡ y' → x ≡ x' → label ≡ label'
    → names_at ground job first y x label ≡ names_at ground' job first y' x' label'
same_names ground ground' job first y y' x x' label label' a b c d =
    ap (λ (g : Area). names_at g job first y x label) a ∙ ap (λ n. names_at ground' job first n x label) b
    ∙ ap (λ n. names_at ground' job first y' n label) c ∙ ap (λ l. names_at ground' job first y' x' l) d

-- one lane more is written, and those below it are to come
module _ (frame : Frame) (along : Along) (columns : List Column) (bars : List Bar) where
  pub lanes_more : (written all : List ℕ) (height last top next : ℕ) (first : Bool) (left later : List Lane) (lane : Lane)
      → left ≡ lane ∷ later
      → top ≡ lane_top height last lane
      → first ≡ not (lane.job == last)
      → next ≡ bounded (top + LANE)
      → written ++ lanes_from frame along columns bars height last left ≡ all
      → (written ++ lane_text frame along columns bars lane first top) ++ lanes_from frame along columns bars next lane.job later ≡ all
  lanes_more written all height last top next first left later lane here at is below before =
      append_assoc written (lane_text frame along columns bars lane first top) (lanes_from frame along columns bars next lane.job later)
      ∙ ap (λ n. written ++ (lane_text frame along columns bars lane first top ++ lanes_from frame along columns bars n lane.job later)) below
      ∙ ap (λ b. written ++ (lane_text frame along columns bars lane b top ++ lanes_from frame along columns bars (bounded (top + LANE)) lane.job later)) is
      ∙ ap (λ t. written ++ (lane_text frame along columns bars lane (not (lane.job == last)) t ++ lanes_from frame along columns bars (bounded (t + LANE)) lane.job later)) at
      ∙ sym (ap (λ (ls : List Lane). written ++ lanes_from frame along columns bars height last ls) here)
      ∙ before

  -- all are written
  pub lanes_end : (written all : List ℕ) (height last : ℕ) (left : List Lane) → left ≡ []
      → written ++ lanes_from frame along columns bars height last left ≡ all
      → written ≡ all
  lanes_end written all height last left none before =
      sym (append-nil written) ∙ sym (ap (λ (ls : List Lane). written ++ lanes_from frame along columns bars height last ls) none) ∙ before

-- a page that has these parts of a drawing
pub is_picture : (drawing : Drawing) (along : Along) (frame : Frame) (head middle foot page : List ℕ) (columns : List Column) (bars : List Bar)
    (lanes : List Lane) (arrows : List Arrow)
    → columns ≡ drawing.columns.items → bars ≡ drawing.bars.items → lanes ≡ drawing.lanes.items → arrows ≡ drawing.arrows.items
    → page ≡ codes "<svg" ++ head ++ lanes_from frame along columns bars TOP 0 lanes ++ middle ++ graph_text frame drawing.graph arrows ++ foot
    → IsPicture drawing along page
is_picture drawing along frame head middle foot page columns bars lanes arrows a b c d whole = record {
  frame = frame;
  head = head;
  middle = middle;
  foot = foot;
  whole =
      whole
      ∙ ap (λ (l : List ℕ). codes "<svg" ++ head ++ l ++ middle ++ graph_text frame drawing.graph arrows ++ foot)
      (ap (λ (cs : List Column). lanes_from frame along cs bars TOP 0 lanes) a
      ∙ ap (λ (bs : List Bar). lanes_from frame along drawing.columns.items bs TOP 0 lanes) b
      ∙ ap (λ (ls : List Lane). lanes_from frame along drawing.columns.items drawing.bars.items TOP 0 ls) c)
      ∙ ap (λ (x : List Arrow).
      codes "<svg" ++ head ++ lanes_from frame along drawing.columns.items drawing.bars.items TOP 0 drawing.lanes.items ++ middle
      ++ graph_text frame drawing.graph x ++ foot) d;
}
