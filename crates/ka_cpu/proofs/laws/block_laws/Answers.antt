use Rattle.ka_cpu.proofs.BlockLaws.{copy_law}
use Rattle.ka_cpu.proofs.laws.block_laws.Goals as goal

pub returns : goal.returns
returns c = copy_law
