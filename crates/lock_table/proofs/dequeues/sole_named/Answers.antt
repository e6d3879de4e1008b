use Rattle.std.proofs.Common.{arith}
use Rattle.std.proofs.lemmas.Grind.{common_steps}
use Rattle.lock_table.proofs.dequeues.sole_named.Goals as goal

pub returns-in-len1 : goal.returns-in-len1
returns-in-len1 g c = grind (arith, common_steps)
