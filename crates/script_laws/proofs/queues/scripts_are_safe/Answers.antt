use Rattle.script_laws.proofs.Along.{scripts_are_safe}
use Rattle.script_laws.proofs.queues.scripts_are_safe.Goals as goal

pub returns : goal.returns
returns c = scripts_are_safe
