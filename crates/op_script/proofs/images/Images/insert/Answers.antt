use Rattle.std.proofs.Common.{◌∙◌, ap}
use Rattle.op_script.specs.Images.{assembled_in, with_image}
use Rattle.op_script.proofs.ImageLemmas.{seen, with_image-seen}
use Rattle.op_script.proofs.images.Images.insert.Goals as goal

pub returns-in-Ok : goal.returns-in-Ok
returns-in-Ok c =
    ap seen c.in-Ok.ensures.entries ∙ with_image-seen c.args.name c.args.image c.self.inside.by_name.entries
    ∙ ap (λ images. with_image images c.args.name (assembled_in c.args.image)) c.self.view_is
