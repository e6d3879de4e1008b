use Rattle.std.proofs.Common.{arith}
use Rattle.std.proofs.lemmas.Grind.{common_steps}
use Rattle.key_queues.proofs.keys.Keys.all_count.Goals as goal

pub loop-n-preserved : goal.loop-n-preserved
loop-n-preserved g c = grind (arith, common_steps)

pub bounds-locks-n : goal.bounds-locks-n
bounds-locks-n g c = grind (arith, common_steps)
