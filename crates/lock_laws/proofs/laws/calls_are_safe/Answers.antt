use Rattle.lock_laws.proofs.AlongCalls.{always_safe}
use Rattle.lock_laws.proofs.laws.calls_are_safe.Goals as goal

pub returns : goal.returns
returns c = always_safe
