use Rattle.std.proofs.Common.{◌≡◌, ◌∙◌, sym, ap, ◌^◌, ◌&&◌, false}
use Rattle.mac_source.specs.Marks.{assembled, marked_by}
use Rattle.mac_source.specs.Sources.{is_referred}
use Rattle.mac_source.proofs.MarkLemmas.{none_marked}
use Rattle.mac_source.proofs.marks.marks_of.Goals as goal

pub returns-then-not-labels-clause-marks : goal.returns-then-not-labels-clause-marks
returns-then-not-labels-clause-marks c =
    let off : c.args.labels ≡ false = cc in
    λ p h. ap (λ l. marked_by l p) (c.in_ok-marks.ensures.items_if_clones_equal (λ y e. e))
    ∙ (none_marked (2 ^ 18) p ∙ ap (λ b. b && is_referred (assembled c.args.image.now) p) (sym off))
