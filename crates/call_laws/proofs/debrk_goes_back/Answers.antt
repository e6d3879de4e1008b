use Rattle.call_laws.proofs.Deliveries.{debrk_goes_back}
use Rattle.call_laws.proofs.debrk_goes_back.Goals as goal

pub returns : goal.returns
returns c = debrk_goes_back
