use Rattle.asm_laws.proofs.Unique.{unique_image}
use Rattle.asm_laws.proofs.laws.images_are_unique.Goals as goal

pub returns : goal.returns
returns c = unique_image
