use Rattle.asm_laws.proofs.Found.{image_found, found_image}
use Rattle.asm_laws.proofs.laws.assemblies_are_found.Goals as goal

pub returns : goal.returns
returns c = λ source image. (image_found source image, found_image source image)
