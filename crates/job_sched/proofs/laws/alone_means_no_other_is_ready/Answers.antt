use Rattle.job_sched.proofs.Turns.{alone-only}
use Rattle.job_sched.proofs.laws.alone_means_no_other_is_ready.Goals as goal

pub returns : goal.returns
returns c = alone-only
