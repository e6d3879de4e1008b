use Rattle.std.proofs.Common.{arith}
use Rattle.ka_isa.proofs.text.register_digits.Goals as goal

pub returns-clause-short : goal.returns-clause-short
returns-clause-short c = c.octal_text.ensures.short 2 (omega arith) (omega arith)
