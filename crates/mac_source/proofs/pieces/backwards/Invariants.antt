use Rattle.std.proofs.Common.{◌≡◌, ◌<◌, ◌∷◌, drop, length}
use Rattle.std.specs.Prelude.{reverse}
use Rattle.mac_source.specs.Marks.{marked_by}
use Rattle.mac_source.specs.Pieces.{pieces_of}
use Rattle.mac_source.proofs.pieces.backwards.Given as goal

-- the piece in hand, and those behind it
abbrev pub invariant-loop-i : goal.invariant-loop-i
invariant-loop-i l =
    record {
      made : l.hand ∷ reverse l.pieces.items ≡ pieces_of l.shown.blocks l.shown.texts (marked_by l.marks) (drop l.i l.words);
      there : l.i < length l.words;
    }
