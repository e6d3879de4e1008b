use Rattle.std.proofs.Common.{◌≡◌, ◌+◌, drop}
use Rattle.std.specs.List.{position_or_len}
use Rattle.ddt_moves.specs.Starts.{holds_at_start}
use Rattle.ddt_moves.proofs.starts.first_at_start.Given as goal

abbrev pub invariant-loop-i : goal.invariant-loop-i
invariant-loop-i l =
    l.i + position_or_len (holds_at_start l.machine l.first l.last) (drop l.i l.slots)
    ≡ position_or_len (holds_at_start l.machine l.first l.last) l.slots
