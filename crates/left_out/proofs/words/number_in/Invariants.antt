use Rattle.std.proofs.Common.{◌≡◌, drop}
use Rattle.left_out.specs.Words.{number_in, rows_of}
use Rattle.left_out.proofs.words.number_in.Given as goal

-- the number is that of the rows from here on
abbrev pub invariant-loop-number : goal.invariant-loop-number
invariant-loop-number l = number_in (rows_of (drop l.number-index l.rows)) l.name ≡ number_in (rows_of l.rows) l.name
