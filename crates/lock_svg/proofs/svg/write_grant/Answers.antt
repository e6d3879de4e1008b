use Rattle.std.proofs.Output.{has_written_of_eq}
use Rattle.lock_svg.specs.Shapes.{grant_sign}
use Rattle.lock_svg.proofs.ShapeLemmas.{same_sign}
use Rattle.lock_svg.proofs.svg.write_grant.Goals as goal

pub returns : goal.returns
unfolding grant_sign
returns g c = λ plain ok.
    has_written_of_eq _ _ _ _ _ (same_sign _ _ _ _ c.x_of-x.ensures c.saturating_add-y.ensures) (c.write_sign.ensures plain ok)
