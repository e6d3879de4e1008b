use Rattle.lock_laws.proofs.WellLaws.{well_formedness_is_kept}
use Rattle.lock_laws.proofs.laws.well_formedness_is_kept.Goals as goal

pub returns : goal.returns
returns c = well_formedness_is_kept
