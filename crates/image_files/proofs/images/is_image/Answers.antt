use Rattle.std.proofs.Common.{refl}
use Rattle.image_files.proofs.ImageLemmas.{image_falls, image_if}
use Rattle.image_files.proofs.images.is_image.Goals as goal

pub returns-then-not-rises : goal.returns-then-not-rises
returns-then-not-rises c =
    image_falls c.rises.result c.as_slice.result.now c.args.image.now.words.items c.args.image.now.start c.rises.ensures
    c.as_slice.ensures.value (cc)

pub returns : goal.returns
returns c =
    image_if c.rises.result _ c.as_slice.result.now c.args.image.now.words.items c.args.image.now.start c.rises.ensures
    c.as_slice.ensures.value (cc) refl
