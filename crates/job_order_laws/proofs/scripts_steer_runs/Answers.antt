use Rattle.job_order_laws.proofs.Scripting.{scripts_do}
use Rattle.job_order_laws.proofs.scripts_steer_runs.Goals as goal

pub returns : goal.returns
returns c = scripts_do
