use Rattle.ka_cpu.proofs.ChainRefusals.{comes_law, refused_law}
use Rattle.ka_cpu.proofs.laws.xct_laws.Goals as goal

pub returns-clause-found : goal.returns-clause-found
returns-clause-found c = comes_law

pub returns-clause-refused : goal.returns-clause-refused
returns-clause-refused c = refused_law
