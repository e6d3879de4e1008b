use Rattle.std.proofs.Common.{arith}
use Rattle.std.proofs.lemmas.Grind.{common_steps}
use Rattle.plain_table.proofs.changes.write_changed.Goals as goal

pub loop-r-preserved : goal.loop-r-preserved
loop-r-preserved g c = grind (arith, common_steps)
