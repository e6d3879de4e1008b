use Rattle.std.proofs.Common.{◌+◌, refl, arith}
use Rattle.word36.specs.declared.sizes.TheConstants.{JOBS}
use Rattle.job_sched.proofs.Sleepers.{none-replicate}
use Rattle.job_sched.proofs.table.JobTable.new.Goals as goal

pub invariant_of-result : goal.invariant_of-result
invariant_of-result c = record { slots = refl; awake = λ _. refl; most = omega arith; vacant = λ n _. none-replicate (JOBS + 1) n }
