use Rattle.job_sched.proofs.Turns.{next-ready}
use Rattle.job_sched.proofs.laws.next_is_ready.Goals as goal

pub returns : goal.returns
returns c = next-ready
