use Rattle.std.proofs.Common.{arith}
use Rattle.std.proofs.lemmas.Grind.{common_steps}
use Rattle.plain_table.proofs.status.status_at.Goals as goal

pub loop-i-preserved-then-is_granted : goal.loop-i-preserved-then-is_granted
loop-i-preserved-then-is_granted c = grind (arith, common_steps)

pub loop-i-preserved-else-is_granted : goal.loop-i-preserved-else-is_granted
loop-i-preserved-else-is_granted c = grind (arith, common_steps)

pub loop-i-preserved : goal.loop-i-preserved
loop-i-preserved c = grind (arith, common_steps)
