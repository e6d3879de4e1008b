use Rattle.job_sched.proofs.Limits.{member}
use Rattle.job_sched.proofs.table.with_member.Goals as goal

pub returns : goal.returns
returns c = λ n. member c.args.jobs c.args.job n c.requires
