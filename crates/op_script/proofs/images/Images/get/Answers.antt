use Rattle.std.proofs.Common.{◌∙◌, ap}
use Rattle.std.specs.Prelude.{option_map}
use Rattle.op_script.specs.Images.{assembled_in, image_of}
use Rattle.op_script.proofs.ImageLemmas.{assembled_in-lent, image_of-seen}
use Rattle.op_script.proofs.images.Images.get.Goals as goal

pub returns : goal.returns
returns c =
    assembled_in-lent c.get.result ∙ ap (option_map assembled_in) c.get.ensures.value
    ∙ image_of-seen c.args.name.now c.self.inside.by_name.entries ∙ ap (λ images. image_of images c.args.name.now) c.self.view_is
