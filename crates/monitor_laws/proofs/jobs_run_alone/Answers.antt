use Rattle.monitor_laws.proofs.Solitude.{runs_alone}
use Rattle.monitor_laws.proofs.jobs_run_alone.Goals as goal

pub returns : goal.returns
returns c = runs_alone
