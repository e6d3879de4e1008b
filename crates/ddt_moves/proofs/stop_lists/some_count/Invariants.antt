use Rattle.std.proofs.Common.{◌≡◌, drop}
use Rattle.std.specs.List.{list_any}
use Rattle.ddt_moves.specs.StopLists.{counts}
use Rattle.ddt_moves.proofs.stop_lists.some_count.Given as goal

abbrev pub invariant-loop-slot : goal.invariant-loop-slot
invariant-loop-slot l = list_any counts (drop l.slot-index l.slots) ≡ list_any counts l.slots
