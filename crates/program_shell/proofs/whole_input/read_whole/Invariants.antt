use Rattle.std.proofs.Common.{◌≡◌, ◌-◌, false, length}
use Rattle.std.specs.Io.KnownBytes.{Consumes}
use Rattle.program_shell.specs.declared.whole_input.TheConstants.{PIECE}
use Rattle.program_shell.proofs.whole_input.read_whole.Given as goal

abbrev pub invariant-loop-piece : goal.invariant-loop-piece
invariant-loop-piece g l = record {
  sound : g.R.ByteIn.has_failed l.reader ≡ false;
  size : length l.piece ≡ PIECE;
  consumed : Consumes (g.R.ByteIn.to_come l.initial.reader) (g.R.ByteIn.to_come l.reader) l.bytes.items;
}

abbrev pub decreases-loop-piece : goal.decreases-loop-piece
decreases-loop-piece g l = l.most - length l.bytes.items
