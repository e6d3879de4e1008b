use Rattle.lock_laws.proofs.Parties.{owners_are_one_party}
use Rattle.lock_laws.proofs.laws.owners_are_one_party.Goals as goal

pub returns : goal.returns
returns c = owners_are_one_party
