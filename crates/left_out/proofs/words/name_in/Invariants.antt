use Rattle.std.proofs.Common.{◌≡◌, drop}
use Rattle.left_out.specs.Words.{name_in, rows_of}
use Rattle.left_out.proofs.words.name_in.Given as goal

-- the name is that of the rows from here on
abbrev pub invariant-loop-known : goal.invariant-loop-known
invariant-loop-known l = name_in (rows_of (drop l.known-index l.rows)) l.number ≡ name_in (rows_of l.rows) l.number
