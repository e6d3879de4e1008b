use Rattle.std.proofs.Common.{◌≡◌, drop}
use Rattle.run_notes.specs.Instructions.{name_in, rows_of}
use Rattle.run_notes.proofs.instructions.name_in.Given as goal

-- no row so far has the number
abbrev pub invariant-loop-known : goal.invariant-loop-known
invariant-loop-known l = name_in (rows_of (drop l.known-index l.rows)) l.number ≡ name_in (rows_of l.rows) l.number
