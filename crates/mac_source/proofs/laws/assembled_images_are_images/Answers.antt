use Rattle.mac_source.proofs.AssembledImages.{assembled_is_image}
use Rattle.mac_source.proofs.laws.assembled_images_are_images.Goals as goal

pub returns : goal.returns
returns c = assembled_is_image
