use Rattle.std.proofs.Common.{arith}
use Rattle.std.proofs.lemmas.Grind.{common_steps}
use Rattle.lock_table.proofs.Reading.{own_there}
use Rattle.lock_table.proofs.readings.sole_of.Goals as goal

pub get-requires : goal.get-requires
get-requires g c = grind (arith, own_there)

pub returns-in-len1-as_slice : goal.returns-in-len1-as_slice
returns-in-len1-as_slice g c = grind (arith, common_steps, own_there)
