use Rattle.meaning_laws.proofs.Example.{rounds_leave}
use Rattle.meaning_laws.proofs.laws.rounds_are_meant.Goals as goal

pub returns : goal.returns
returns c = rounds_leave
