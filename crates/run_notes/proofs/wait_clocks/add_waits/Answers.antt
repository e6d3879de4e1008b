use Rattle.std.proofs.Common.{arith}
use Rattle.std.proofs.lemmas.Grind.{common_steps}
use Rattle.run_notes.proofs.wait_clocks.add_waits.Goals as goal

pub loop-clock-preserved : goal.loop-clock-preserved
loop-clock-preserved c = grind (arith, common_steps)
