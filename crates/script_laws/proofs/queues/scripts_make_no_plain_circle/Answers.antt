use Rattle.script_laws.proofs.Along.{scripts_make_no_plain_circle}
use Rattle.script_laws.proofs.queues.scripts_make_no_plain_circle.Goals as goal

pub returns : goal.returns
returns c = scripts_make_no_plain_circle
