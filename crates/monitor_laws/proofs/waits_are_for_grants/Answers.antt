use Rattle.monitor_laws.proofs.Waiting.{waits_for_grants}
use Rattle.monitor_laws.proofs.waits_are_for_grants.Goals as goal

pub returns : goal.returns
returns c = waits_for_grants
