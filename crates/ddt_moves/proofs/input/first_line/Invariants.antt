use Rattle.std.proofs.Common.{◌≡◌, ◌+◌, drop}
use Rattle.std.specs.List.{position_or_len}
use Rattle.ddt_moves.specs.Input.{is_line_end}
use Rattle.ddt_moves.proofs.input.first_line.Given as goal

abbrev pub invariant-loop-i : goal.invariant-loop-i
invariant-loop-i l = l.i + position_or_len is_line_end (drop l.i l.text) ≡ position_or_len is_line_end l.text
