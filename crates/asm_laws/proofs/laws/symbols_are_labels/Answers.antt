use Rattle.asm_laws.proofs.Symbols.{symbols-are}
use Rattle.asm_laws.proofs.laws.symbols_are_labels.Goals as goal

pub returns : goal.returns
returns c = symbols-are
