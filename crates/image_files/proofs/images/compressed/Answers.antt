use Rattle.std.proofs.Common.{◌∙◌, ap, refl}
use Rattle.std.specs.Prelude.{filter}
use Rattle.image_files.specs.Images.{is_not_zero}
use Rattle.image_files.proofs.ImageLemmas.{kept_is_image, same_contents}
use Rattle.image_files.proofs.images.compressed.Goals as goal

pub returns-clause-words : goal.returns-clause-words
returns-clause-words c = c.in_ok-words.ensures ∙ ap (filter is_not_zero) c.as_slice.ensures.value

pub returns-clause-image : goal.returns-clause-image
returns-clause-image c = λ is.
    kept_is_image c.args.image.now.words.items c.in_ok-words.words.items c.args.image.now.start c.args.image.now.start
    (c.in_ok-words.ensures ∙ ap (filter is_not_zero) c.as_slice.ensures.value) refl is

pub returns-clause-contents : goal.returns-clause-contents
returns-clause-contents c = λ is a.
    same_contents c.args.image.now.words.items c.in_ok-words.words.items c.args.image.now.start a
    (c.in_ok-words.ensures ∙ ap (filter is_not_zero) c.as_slice.ensures.value) is
