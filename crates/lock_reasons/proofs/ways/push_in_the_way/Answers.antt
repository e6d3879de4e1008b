use Rattle.std.proofs.Common.{arith}
use Rattle.std.proofs.lemmas.Grind.{common_steps}
use Rattle.lock_reasons.proofs.ways.push_in_the_way.Goals as goal

pub loop-v-preserved-then-not-is_met : goal.loop-v-preserved-then-not-is_met
loop-v-preserved-then-not-is_met c = grind (arith, common_steps)

pub loop-v-preserved : goal.loop-v-preserved
loop-v-preserved c = grind (arith, common_steps)

pub returns : goal.returns
returns c = grind (arith, common_steps)
