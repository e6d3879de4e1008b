use Rattle.std.proofs.Common.{◌≡◌, drop}
use Rattle.macro_operations.specs.Tables.{found_in, known_rows}
use Rattle.macro_operations.proofs.tables.find.Given as goal

-- the table says what the rows from here on say
abbrev pub invariant-loop-known : goal.invariant-loop-known
invariant-loop-known l = found_in (known_rows (drop l.known-index l.table)) l.name ≡ found_in (known_rows l.table) l.name
