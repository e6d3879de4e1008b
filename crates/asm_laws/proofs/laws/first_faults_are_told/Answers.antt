use Rattle.asm_laws.proofs.First.{first-told}
use Rattle.asm_laws.proofs.laws.first_faults_are_told.Goals as goal

pub returns : goal.returns
returns c = first-told
