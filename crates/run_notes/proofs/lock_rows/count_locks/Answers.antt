use Rattle.std.proofs.Common.{arith}
use Rattle.std.proofs.lemmas.Grind.{common_steps}
use Rattle.run_notes.proofs.lock_rows.count_locks.Goals as goal

pub loop-want-preserved : goal.loop-want-preserved
loop-want-preserved c = grind (arith, common_steps)
