use Rattle.ka_cpu.proofs.StackLaws.{pop_law}
use Rattle.ka_cpu.proofs.laws.stack_laws.Goals as goal

pub returns : goal.returns
returns c = pop_law
