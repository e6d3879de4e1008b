use Rattle.std.proofs.Common.{arith}
use Rattle.std.proofs.lemmas.Grind.{common_steps}
use Rattle.lock_table.proofs.Reading.{own_there}
use Rattle.lock_table.proofs.readings.first_pending.Goals as goal

pub get-f-requires : goal.get-f-requires
get-f-requires g c = grind (arith, own_there)

pub loop-p-preserved : goal.loop-p-preserved
loop-p-preserved g c = grind (arith, common_steps)
