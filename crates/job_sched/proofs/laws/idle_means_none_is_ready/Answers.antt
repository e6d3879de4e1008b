use Rattle.job_sched.proofs.Turns.{idle-none}
use Rattle.job_sched.proofs.laws.idle_means_none_is_ready.Goals as goal

pub returns : goal.returns
returns c = idle-none
