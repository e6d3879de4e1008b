use Rattle.std.proofs.Common.{arith, take}
use Rattle.std.proofs.lemmas.Grind.{common_steps}
use Rattle.key_queues.proofs.Orders.{there_by_index}
use Rattle.key_queues.proofs.queue.Queue.counts.Goals as goal

pub returns : goal.returns
returns c = grind (arith, common_steps, there_by_index c.args.slot (take c.self.inside.fitting c.self.inside.slots.items))
