use Rattle.asm_laws.proofs.Firsts.{faults-told}
use Rattle.asm_laws.proofs.laws.least_codes_are_told.Goals as goal

pub returns : goal.returns
returns c = faults-told
