use Rattle.std.proofs.Common.{arith}
use Rattle.std.proofs.lemmas.Grind.{common_steps}
use Rattle.lock_table.proofs.flips.Flips.flip_if.Goals as goal

pub returns-else-self-lt2-clause-value : goal.returns-else-self-lt2-clause-value
returns-else-self-lt2-clause-value g c = grind (arith, common_steps)

pub returns-then-self-lt2-clause-value : goal.returns-then-self-lt2-clause-value
returns-then-self-lt2-clause-value g c = grind (arith, common_steps)
