use Rattle.ka_cpu.proofs.RunLaws.{one_law, split_law}
use Rattle.ka_cpu.proofs.laws.run_laws.Goals as goal

pub returns-clause-one : goal.returns-clause-one
returns-clause-one c = one_law

pub returns-clause-split : goal.returns-clause-split
returns-clause-split c = split_law
