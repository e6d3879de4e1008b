use Rattle.std.proofs.Common.{◌≡◌, ◌++◌, drop}
use Rattle.mac_layout.specs.Addresses.{first_address}
use Rattle.mac_source.specs.Sources.{lines_text, style_with}
use Rattle.mac_source.specs.Marks.{marked_by}
use Rattle.mac_source.proofs.sources.push_lines.Given as goal

-- the lines so far and those to come are all
abbrev pub invariant-loop-piece : goal.invariant-loop-piece
invariant-loop-piece l =
    l.out.items ++ lines_text (style_with (marked_by l.marks) l.shown) l.start l.here (drop l.piece-index l.pieces)
    ≡ l.initial.out.items ++ lines_text (style_with (marked_by l.marks) l.shown) l.start first_address l.pieces
