use Rattle.std.proofs.Common.{arith}
use Rattle.key_queues.proofs.Contents.{no_content, long}
use Rattle.key_queues.proofs.entry_slab.EntrySlab.new.Goals as goal

pub returns-clause-none : goal.returns-clause-none
returns-clause-none g c = λ p. grind (arith, no_content, c.in_ok-slab.ensures.empty)

pub returns-clause-long : goal.returns-clause-long
returns-clause-long g c = grind (arith, long)
