use Rattle.std.proofs.Common.{rules}
use Rattle.std.proofs.Output.{has_written_append, has_written_of_eq}
use Rattle.lock_svg.specs.Shapes.{bar_shape}
use Rattle.lock_svg.proofs.ShapeLemmas.{same_bar}
use Rattle.lock_svg.proofs.svg.write_bar.Goals as goal

pub returns : goal.returns
unfolding bar_shape
returns g c = λ plain ok.
    let first = c.write_box.ensures plain (search rules) in
    has_written_of_eq _ _ _ _ _ (same_bar c.args.bar.now.hold _ _ _ _ _ _ c.class_of.ensures c.area_of-area.ensures c.of-text.ensures)
    (has_written_append _ _ _ _ _ _ first (c.write_amount.ensures first.plain ok))
