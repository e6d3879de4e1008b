use Rattle.std.proofs.Common.{arith}
use Rattle.std.proofs.lemmas.Grind.{common_steps}
use Rattle.lock_reasons.proofs.reasons.changed.Goals as goal

pub returns-then-r-job : goal.returns-then-r-job
returns-then-r-job c = grind (arith, common_steps)

pub returns-else-r-job : goal.returns-else-r-job
returns-else-r-job c = grind (arith, common_steps)
