use Rattle.std.proofs.Common.{arith}
use Rattle.std.proofs.lemmas.Grind.{common_steps}
use Rattle.plain_table.proofs.jobs.remove_blocked_among.Goals as goal

pub loop-i-preserved-then-is_blocked_among : goal.loop-i-preserved-then-is_blocked_among
loop-i-preserved-then-is_blocked_among g c = grind (arith, common_steps)

pub loop-i-preserved : goal.loop-i-preserved
loop-i-preserved g c = grind (arith, common_steps)
