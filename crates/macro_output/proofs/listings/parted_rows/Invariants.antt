use Rattle.std.proofs.Common.{◌≡◌, ◌++◌, drop}
use Rattle.macro_output.specs.Listings.{source_rows, expanded_rows}
use Rattle.macro_output.proofs.listings.parted_rows.Given as goal

abbrev pub invariant-loop-row : goal.invariant-loop-row
invariant-loop-row l = record {
  own : l.rows.items ++ source_rows (drop l.row-index l.listing.rows.items) ≡ source_rows l.listing.rows.items;
  expanded : l.expanded_rows.items ++ expanded_rows (drop l.row-index l.listing.rows.items) ≡ expanded_rows l.listing.rows.items;
}
