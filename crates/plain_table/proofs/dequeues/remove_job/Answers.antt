use Rattle.std.proofs.Common.{arith}
use Rattle.std.proofs.lemmas.Grind.{common_steps}
use Rattle.plain_table.proofs.dequeues.remove_job.Goals as goal

pub loop-i-preserved-then-as_slice-i : goal.loop-i-preserved-then-as_slice-i
loop-i-preserved-then-as_slice-i g c = grind (arith, common_steps)

pub loop-i-preserved : goal.loop-i-preserved
loop-i-preserved g c = grind (arith, common_steps)
