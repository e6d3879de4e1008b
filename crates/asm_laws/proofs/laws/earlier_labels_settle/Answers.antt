use Rattle.asm_laws.proofs.Maps.{value-known, value-settled}
use Rattle.asm_laws.proofs.laws.earlier_labels_settle.Goals as goal

pub returns : goal.returns
returns c = record { known = value-known; kept = value-settled }
