use Rattle.monitor_laws.proofs.Safety.{no-circle}
use Rattle.monitor_laws.proofs.plain_jobs_make_no_circle.Goals as goal

pub returns : goal.returns
returns c = no-circle
