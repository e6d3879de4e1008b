use Rattle.std.proofs.Common.{◌≡◌, ◌+◌, drop}
use Rattle.std.specs.List.{position_or_len}
use Rattle.ddt_moves.specs.StopLists.{is_there}
use Rattle.ddt_moves.proofs.stop_lists.slot_of.Given as goal

abbrev pub invariant-loop-i : goal.invariant-loop-i
invariant-loop-i l =
    l.i + position_or_len (is_there l.job l.address) (drop l.i l.slots)
    ≡ position_or_len (is_there l.job l.address) l.slots
