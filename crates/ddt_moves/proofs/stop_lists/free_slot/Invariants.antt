use Rattle.std.proofs.Common.{◌≡◌, ◌+◌, drop}
use Rattle.std.specs.Prelude.{is_none}
use Rattle.std.specs.List.{position_or_len}
use Rattle.ddt_moves.proofs.stop_lists.free_slot.Given as goal

abbrev pub invariant-loop-i : goal.invariant-loop-i
invariant-loop-i l = l.i + position_or_len is_none (drop l.i l.slots) ≡ position_or_len is_none l.slots
