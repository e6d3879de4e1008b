use Rattle.asm_laws.proofs.MetLines.{lines-met}
use Rattle.asm_laws.proofs.laws.lines_agree_from_above.Goals as goal

pub returns : goal.returns
returns c = lines-met
