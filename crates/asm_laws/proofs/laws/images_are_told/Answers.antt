use Rattle.asm_laws.proofs.Told.{image-told, told-image}
use Rattle.asm_laws.proofs.laws.images_are_told.Goals as goal

pub returns : goal.returns
returns c = λ source image. (image-told source image, told-image source image)
