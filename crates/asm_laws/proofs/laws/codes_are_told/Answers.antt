use Rattle.asm_laws.proofs.Codes.{codes-told}
use Rattle.asm_laws.proofs.laws.codes_are_told.Goals as goal

pub returns : goal.returns
returns c = codes-told
