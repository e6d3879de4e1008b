use Rattle.asm_laws.proofs.Example.{example_is_assembled}
use Rattle.asm_laws.proofs.laws.example_is_assembled.Goals as goal

pub returns : goal.returns
returns c = example_is_assembled
