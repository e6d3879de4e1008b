use Rattle.lock_laws.proofs.AlongCalls.{never_plain_circle}
use Rattle.lock_laws.proofs.laws.plain_jobs_make_no_circle.Goals as goal

pub returns : goal.returns
returns c = never_plain_circle
