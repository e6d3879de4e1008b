use Rattle.std.proofs.Common.{arith}
use Rattle.key_queues.proofs.Finding.{in_use_within}
use Rattle.lock_table.proofs.queues.lock_of.Goals as goal

pub bounds-locks-n : goal.bounds-locks-n
bounds-locks-n g c = grind (arith, in_use_within)
