use Rattle.std.proofs.Common.{◌≡◌, take}
use Rattle.key_queues.specs.Tables.{is_there}
use Rattle.key_queues.proofs.slot_list.is_among.Given as goal

abbrev pub invariant-loop-x : goal.invariant-loop-x
invariant-loop-x l = l.any ≡ is_there l.p (take l.x-index l.list)
