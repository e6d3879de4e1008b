use Rattle.lock_laws.proofs.EveryChange.{owners_are_kept}
use Rattle.lock_laws.proofs.laws.owners_are_kept.Goals as goal

pub returns : goal.returns
returns c = owners_are_kept
