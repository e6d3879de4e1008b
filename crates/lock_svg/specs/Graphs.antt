-- How a picture shows who waits for whom (this project's profile).
use Rattle.std.specs.Prelude.{ℕ, ◌+◌, ◌-◌, ◌*◌, ◌/◌, ◌++◌, List, [], Option, Some, None, codes, decimal, if◌then◌else◌}
use Rattle.std.specs.Prelude.{slice_get, unwrap_or}
use Rattle.std.specs.List.{flat_map}
use Rattle.lock_bars.specs.Names.{label_text}
use Rattle.lock_bars.specs.declared.arrows.Arrow.{Arrow}
use Rattle.lock_queue.specs.Waits.{jobs}
use Rattle.lock_queue.specs.declared.key.Key.{Key}
use Rattle.lock_svg.specs.Shapes.{bounded}
use Rattle.lock_svg.specs.Words.{arrow_class}
use Rattle.lock_svg.specs.declared.frame.Frame.{Frame}
use Rattle.lock_svg.specs.declared.points.Point.{Point}
use Rattle.wait_graph.specs.Graphs.{has_wait, is_on_circle}
use Rattle.wait_graph.specs.declared.graph.Graph.{Graph}
use Rattle.wait_graph.specs.declared.graph.Wait.{Wait}

-- the place of a job
abbrev pub point_in : Frame → ℕ → Point
point_in frame job = unwrap_or (slice_get frame.points job) (record { x = 0; y = 0 })

-- ---- the places of an arrow, which is bent to one side

abbrev pub bent : ℕ → ℕ → ℕ → ℕ → ℕ
bent a b from to = bounded (bounded (a + b) / 2 + to / 6) - from / 6

abbrev pub bend_of : Point → Point → Point
bend_of from to = record { x = bent from.x to.x from.y to.y; y = bent from.y to.y to.x from.x }

-- its middle, and the foot of the name there
abbrev pub middle_of : ℕ → ℕ → ℕ → ℕ
middle_of from bend to = bounded (bounded (from + to) + bounded (bend * 2)) / 4

abbrev pub name_at : Point → Point → Point → Point
name_at from bend to = record { x = middle_of from.x bend.x to.x; y = bounded (middle_of from.y bend.y to.y + 4) }

-- ---- an arrow

-- its head
abbrev pub head_of : Wait → List ℕ
head_of wait = if wait.is_in_circle then codes "head-circle" else codes "head"

-- what is said of it: who waits for whom, for an owner or for one that asked before, and in a circle or in none
abbrev pub kind_text : Wait → List ℕ
kind_text wait =
    if wait.is_hard
    then (if wait.is_in_circle then codes ", hard, in a circle" else codes ", hard")
    else (if wait.is_in_circle then codes ", soft, in a circle" else codes ", soft")

unfoldable pub wait_text : Wait → List ℕ
wait_text wait = codes "job " ++ decimal wait.job ++ codes " waits for job " ++ decimal wait.other ++ kind_text wait

-- and for which lock, if that is known
abbrev pub words_on : Option Key → List ℕ
words_on (Some key) = codes ", for " ++ label_text key
words_on None = []

-- the name of the lock on it
abbrev pub label_text_on : Point → Option Key → List ℕ
label_text_on at (Some key) =
    codes "<text class=\"on\" x=\"" ++ decimal at.x ++ codes "\" y=\"" ++ decimal at.y ++ codes "\">" ++ label_text key ++ codes "</text>\n"
label_text_on at None = []

unfoldable pub curve_text : Point → Point → Point → List ℕ
curve_text from bend to =
    codes "M" ++ decimal from.x ++ codes " " ++ decimal from.y ++ codes "Q" ++ decimal bend.x ++ codes " " ++ decimal bend.y ++ codes " "
    ++ decimal to.x ++ codes " " ++ decimal to.y

-- of these classes for its line and its head
unfoldable pub arrow_of : List ℕ → List ℕ → Arrow → Point → Point → Point → Point → List ℕ
arrow_of class head arrow from bend to at =
    codes "<path class=\"" ++ class ++ codes "\" d=\"" ++ curve_text from bend to ++ codes "\" marker-end=\"url(#"
    ++ head ++ codes ")\"><title>" ++ wait_text arrow.wait ++ words_on arrow.lock ++ codes "</title></path>\n"
    ++ label_text_on at arrow.lock

abbrev pub arrow_text : Arrow → Point → Point → Point → Point → List ℕ
arrow_text arrow from bend to at = arrow_of (arrow_class arrow.wait) (head_of arrow.wait) arrow from bend to at

-- from the job that waits to the one for which it waits
abbrev pub arrow_between : Arrow → Point → Point → List ℕ
arrow_between arrow from to = arrow_text arrow from (bend_of from to) to (name_at from (bend_of from to) to)

abbrev pub arrows_text : Frame → Arrow → List ℕ
arrows_text frame arrow = arrow_between arrow (point_in frame arrow.wait.job) (point_in frame arrow.wait.other)

-- ---- a job

abbrev pub node_class : Graph → ℕ → List ℕ
node_class graph job = if is_on_circle graph job then codes "node circle" else codes "node"

-- of a class at a point, with its number
abbrev pub node_at : List ℕ → Point → ℕ → ℕ → List ℕ
node_at class at foot job =
    codes "<circle class=\"" ++ class ++ codes "\" cx=\"" ++ decimal at.x ++ codes "\" cy=\"" ++ decimal at.y
    ++ codes "\" r=\"15\"/><text class=\"number\" x=\"" ++ decimal at.x ++ codes "\" y=\"" ++ decimal foot ++ codes "\">"
    ++ decimal job ++ codes "</text>\n"

-- if it waits or is waited for
abbrev pub node_text : Frame → Graph → ℕ → List ℕ
node_text frame graph job =
    if has_wait graph job then node_at (node_class graph job) (point_in frame job) (bounded ((point_in frame job).y + 5)) job else []

abbrev pub nodes_text : Frame → Graph → List ℕ
nodes_text frame graph = flat_map (node_text frame graph) jobs

-- ---- all of it: each wait, and each job that waits or is waited for

unfoldable pub graph_text : Frame → Graph → List Arrow → List ℕ
graph_text frame graph arrows = flat_map (arrows_text frame) arrows ++ nodes_text frame graph
