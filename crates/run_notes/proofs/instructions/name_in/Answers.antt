use Rattle.std.proofs.Common.{arith}
use Rattle.std.proofs.lemmas.Grind.{common_steps}
use Rattle.run_notes.proofs.instructions.name_in.Goals as goal

pub loop-known-preserved : goal.loop-known-preserved
loop-known-preserved c = grind (arith, common_steps)
