use Rattle.std.proofs.Common.{arith}
use Rattle.std.proofs.lemmas.Grind.{common_steps}
use Rattle.lock_table.proofs.Numbers.{other_hash}
use Rattle.lock_table.proofs.found.is_named.Goals as goal

pub loop-i-preserved : goal.loop-i-preserved
loop-i-preserved c = grind (arith, common_steps, other_hash, c.requires.hashes c.loop-i.i (omega (arith, c.loop-i-test.true)))
