use Rattle.std.proofs.Common.{◌∙◌, List, ℕ, subst, sym}
use Rattle.lock_svg.specs.Pictures.{IsPicture}
use Rattle.lock_svg.specs.declared.along.Along.TheVariants.{Script}
use Rattle.lockview.proofs.serving.svg_page.Goals as goal

pub returns : goal.returns
returns c =
    let bytes = c.in_ok-page.ensures.items ∙ c.as_bytes.ensures.value ∙ c.as_str.ensures.value in (
      c.in_ok-drawing.drawing,
      c.in_ok-drawing.ensures,
      subst (λ (l : List ℕ). IsPicture c.in_ok-drawing.drawing Script l) (sym bytes) c.in_ok-svg.ensures,
    )
