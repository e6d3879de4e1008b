use Rattle.asm_laws.proofs.Taken.{takes_its_addresses}
use Rattle.asm_laws.proofs.laws.words_take_their_addresses.Goals as goal

pub returns : goal.returns
returns c = takes_its_addresses
