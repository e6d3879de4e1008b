use Rattle.std.proofs.Common.{◌≡◌, drop}
use Rattle.ddt_timeline.specs.Views.{history}
use Rattle.ddt_moves.specs.Terminals.{line_has_room, typed_line}
use Rattle.ddt_moves.proofs.terminals.type_line.Given as goal

abbrev pub invariant-loop-byte : goal.invariant-loop-byte
invariant-loop-byte l = record {
  happened :
      typed_line l.line (drop l.byte-index l.typed) (history l.timeline) ≡ typed_line l.line l.typed (history l.initial.timeline);
  room :
      line_has_room l.line (drop l.byte-index l.typed) (history l.timeline)
      ≡ line_has_room l.line l.typed (history l.initial.timeline);
}
