use Rattle.std.proofs.Common.{arith, ◌-◌, vec_len}
use Rattle.std.proofs.lemmas.Grind.{common_steps}
use Rattle.key_queues.proofs.Orders.{turned_out}
use Rattle.key_queues.proofs.slot_list.SlotList.take_out_before_last.Goals as goal

pub returns : goal.returns
returns g c =
    grind (arith, common_steps, turned_out c.self.inside.slots.items c.index_of-i.result (vec_len c.self.inside.slots - 1))
