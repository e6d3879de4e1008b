use Rattle.std.proofs.Common.{◌-◌, arith, vec_len}
use Rattle.key_queues.proofs.Orders.{without_last}
use Rattle.key_queues.proofs.slot_list.SlotList.take_out.Goals as goal

pub returns-then-index-p : goal.returns-then-index-p
returns-then-index-p g c = grind (arith, without_last c.args.p (vec_len c.self.inside.slots - 1) c.index.result.now c.self.inside.slots.items)
