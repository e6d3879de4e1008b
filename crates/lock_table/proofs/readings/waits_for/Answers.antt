use Rattle.std.proofs.Common.{arith}
use Rattle.std.proofs.lemmas.Grind.{common_steps}
use Rattle.lock_table.proofs.Telling.{waits_is}
use Rattle.lock_table.proofs.Reading.{own_there}
use Rattle.lock_table.proofs.readings.waits_for.Goals as goal

pub is_kept_from-requires : goal.is_kept_from-requires
is_kept_from-requires g c = grind (arith, own_there, waits_is)

pub get-requires : goal.get-requires
get-requires g c = grind (arith, own_there, waits_is)

pub returns-then-is_kept_from : goal.returns-then-is_kept_from
returns-then-is_kept_from g c = grind (arith, common_steps)

pub loop-p-preserved : goal.loop-p-preserved
loop-p-preserved g c = grind (arith, common_steps)

pub loop-p-init : goal.loop-p-init
loop-p-init g c = grind (arith, own_there, waits_is)
