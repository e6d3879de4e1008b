use Rattle.std.proofs.Common.{◌≡◌, drop}
use Rattle.macro_expressions.specs.Operations.{found_in, rows_of}
use Rattle.macro_expressions.proofs.operations.found_in.Given as goal

-- the table says what the rows from here on say
abbrev pub invariant-loop-known : goal.invariant-loop-known
invariant-loop-known g l = found_in (rows_of (drop l.known-index l.rows)) l.name ≡ found_in (rows_of l.rows) l.name
