use Rattle.lock_laws.proofs.EveryChange.{safety_is_kept}
use Rattle.lock_laws.proofs.laws.safety_is_kept.Goals as goal

pub returns : goal.returns
returns c = safety_is_kept
