use Rattle.std.proofs.Common.{◌≡◌, ◌+◌, ◌++◌, ◌==◌, ◌∷◌, ◌∙◌, suc, not, [], add-one, ap, arith, drop, drop-cons, length-drop, refl, rules, sym}
use Rattle.std.proofs.Output.{has_written_append, has_written_of_eq}
use Rattle.std.proofs.lemmas.List.{nil_from_length}
use Rattle.lock_bars.specs.declared.lanes.Lane.{Lane}
use Rattle.lock_svg.specs.Pictures.{lane_text, lanes_from}
use Rattle.lock_svg.specs.declared.frame.TheConstants.{TOP}
use Rattle.lock_svg.proofs.ShapeLemmas.{lanes_end, lanes_more}
use Rattle.lock_svg.proofs.svg.LanesTextDisplay.fmt.Goals as goal

pub loop-lane-init : goal.loop-lane-init
loop-lane-init g c = λ plain. ([], search rules, refl)

pub loop-lane-preserved : goal.loop-lane-preserved
loop-lane-preserved g c = λ plain.
    let now = c.loop-lane.invariant plain in
    let self = c.args.self.now in
    let lanes = self.lanes.now in
    let lane = c.lane-item.result in
    let i = c.loop-lane.lane-index in
    let top = c.lane_top-top.result in
    let first = not (lane.job == c.loop-lane.last) in
    let here : drop i lanes ≡ lane ∷ drop (i + 1) lanes =
    rw add-one (drop-cons lanes i lane c.loop-lane-test.true ∙ ap (λ (x : Lane). x ∷ drop (suc i) lanes) (sym c.lane-item.is)) in (
      now.0 ++ lane_text self.frame.now self.along self.columns.now self.bars.now lane first top,
      has_written_append _ _ _ _ _ _ now.1 (c.write_lane.ensures now.1.plain (search rules)),
      lanes_more self.frame.now self.along self.columns.now self.bars.now now.0
          (lanes_from self.frame.now self.along self.columns.now self.bars.now TOP 0 lanes) c.loop-lane.height c.loop-lane.last top
          c.saturating_add-height.result first (drop i lanes) (drop (i + 1) lanes) lane here c.lane_top-top.ensures refl
          c.saturating_add-height.ensures now.2,
    )

pub returns-clause-writes : goal.returns-clause-writes
returns-clause-writes g c = λ plain ok.
    let now = c.loop-lane.invariant plain in
    let self = c.args.self.now in
    let none : drop c.loop-lane.lane-index self.lanes.now ≡ [] =
    nil_from_length (drop c.loop-lane.lane-index self.lanes.now) (simp length-drop (omega arith)) in
    has_written_of_eq _ _ _ _ _
    (lanes_end self.frame.now self.along self.columns.now self.bars.now now.0
    (lanes_from self.frame.now self.along self.columns.now self.bars.now TOP 0 self.lanes.now) c.loop-lane.height c.loop-lane.last
    (drop c.loop-lane.lane-index self.lanes.now) none now.2)
    now.1
