use Rattle.std.proofs.Common.{append_assoc, arith}
use Rattle.std.proofs.lemmas.Grind.{common_steps}
use Rattle.run_notes.proofs.fact_lines.push_wants.Goals as goal

pub loop-want-preserved : goal.loop-want-preserved
loop-want-preserved c = grind (arith, common_steps, append_assoc)
