use Rattle.std.proofs.Common.{◌≡◌, ◌++◌, drop}
use Rattle.std.specs.List.{flat_map}
use Rattle.run_record.specs.Scripts.{text_of}
use Rattle.run_record.proofs.scripts.push_pieces.Given as goal

abbrev pub invariant-loop-piece : goal.invariant-loop-piece
invariant-loop-piece l =
    l.out.items ++ flat_map text_of (drop l.piece-index l.pieces) ≡ l.initial.out.items ++ flat_map text_of l.pieces
