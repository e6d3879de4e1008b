use Rattle.meaning_laws.proofs.Example.{stopped_leave}
use Rattle.meaning_laws.proofs.laws.stopped_rounds_are_meant.Goals as goal

pub returns : goal.returns
returns c = stopped_leave
