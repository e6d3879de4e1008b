use Rattle.monitor_laws.proofs.Owning.{keeps_owners}
use Rattle.monitor_laws.proofs.owners_are_kept.Goals as goal

pub returns : goal.returns
returns c = keeps_owners
