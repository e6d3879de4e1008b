use Rattle.std.proofs.Common.{arith}
use Rattle.std.proofs.lemmas.Option.{gets}
use Rattle.key_queues.proofs.Finding.{lock_read}
use Rattle.key_queues.proofs.keys.Keys.next_slot.Goals as goal

pub returns : goal.returns
returns g c = grind (arith, gets, lock_read)
