use Rattle.std.proofs.Common.{arith}
use Rattle.std.proofs.lemmas.Grind.{common_steps}
use Rattle.macro_output.proofs.LineEnds.{next-blank, next-text}
use Rattle.macro_output.proofs.rows.end_of.Goals as goal

pub loop-index-preserved : goal.loop-index-preserved
loop-index-preserved c = grind (arith, common_steps, next-blank, next-text)
