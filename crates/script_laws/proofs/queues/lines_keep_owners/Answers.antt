use Rattle.script_laws.proofs.Along.{lines_keep_owners}
use Rattle.script_laws.proofs.queues.lines_keep_owners.Goals as goal

pub returns : goal.returns
returns c = lines_keep_owners
