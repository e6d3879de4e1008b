use Rattle.std.proofs.Common.{arith}
use Rattle.std.proofs.lemmas.Grind.{common_steps}
use Rattle.run_notes.proofs.snapshot.registers_of.Goals as goal

pub loop-register-preserved : goal.loop-register-preserved
loop-register-preserved c = grind (arith, common_steps)
