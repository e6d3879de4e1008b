use Rattle.std.proofs.Common.{take}
use Rattle.std.specs.Fmt.{HasWritten, IsPlainFormatter}
use Rattle.std.specs.List.{flat_map}
use Rattle.lock_svg.specs.Graphs.{arrows_text}
use Rattle.lock_svg.proofs.svg_graph.write_arrows.Given as goal

-- the arrows so far are written
abbrev pub invariant-loop-arrow : goal.invariant-loop-arrow
invariant-loop-arrow g l =
    IsPlainFormatter l.initial.f
    → HasWritten g.W.Write.write_str_gives l.initial.f (flat_map (arrows_text l.frame) (take l.arrow-index l.arrows)) l.f
