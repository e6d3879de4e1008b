use Rattle.kept_parts.specs.SameSlots.{same_kept, same_kept-Decides}
use Rattle.kept_parts.specs.declared.slots.KeptSlot.{KeptSlot}
use Rattle.job_orders.specs.Tables.{no_slot}
use Rattle.job_orders.proofs.Numbers.{stored}
use Rattle.job_orders.proofs.packing.pack_slot.Goals as goal

pub returns-clause-slot : goal.returns-clause-slot
returns-clause-slot c =
    let s = c.in_ok-number.ensures.stored in
    stored (λ (k : KeptSlot). k) no_slot same_kept same_kept-Decides c.number_of.new.self c.in_ok-number.number
    (record { slot = c.args.slot.now; last = c.args.last }) s.0 c.in_ok-number.ensures.within s.1 s.2
