use Rattle.std.proofs.Common.{◌≡◌, ◌+◌, drop}
use Rattle.macro_output.specs.Listings.{rows_to}
use Rattle.macro_output.proofs.listings.part_rows.Given as goal

abbrev pub invariant-loop-index : goal.invariant-loop-index
invariant-loop-index l = rows_to l.line l.rows ≡ l.index + rows_to l.line (drop l.index l.rows)
