use Rattle.lock_laws.proofs.AlongCalls.{always_keeps_owners}
use Rattle.lock_laws.proofs.laws.jobs_keep_their_locks.Goals as goal

pub returns : goal.returns
returns c = always_keeps_owners
