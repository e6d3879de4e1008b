use Rattle.std.proofs.Common.{arith}
use Rattle.std.proofs.lemmas.Grind.{common_steps}
use Rattle.std.proofs.lemmas.List.Sums.{count_by_more_no, count_by_more_yes, count_by-le-length}
use Rattle.ddt_moves.proofs.input.InputLines.forget.Goals as goal

pub loop-typed-preserved : goal.loop-typed-preserved
loop-typed-preserved c = grind (arith, common_steps, count_by_more_yes, count_by_more_no, count_by-le-length)
