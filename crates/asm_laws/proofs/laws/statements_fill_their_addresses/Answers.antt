use Rattle.asm_laws.proofs.Sizes.{sizes_fit}
use Rattle.asm_laws.proofs.laws.statements_fill_their_addresses.Goals as goal

pub returns : goal.returns
returns c = sizes_fit
