use Rattle.std.proofs.Common.{arith}
use Rattle.lock_table.proofs.Telling.{granted_is}
use Rattle.lock_table.proofs.readings.is_granted.Goals as goal

pub returns : goal.returns
returns g c = grind (arith, granted_is)
