use Rattle.std.proofs.Common.{◌≡◌, ◌++◌, drop}
use Rattle.std.specs.List.{flat_map}
use Rattle.macro_output.specs.Rows.{own_line}
use Rattle.macro_output.proofs.rows.push_other_rows.Given as goal

abbrev pub invariant-loop-row : goal.invariant-loop-row
invariant-loop-row l = l.out.items ++ flat_map own_line (drop l.row-index l.rows) ≡ l.initial.out.items ++ flat_map own_line l.rows
