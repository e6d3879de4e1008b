use Rattle.std.proofs.Common.{take}
use Rattle.std.specs.Fmt.{HasWritten, IsPlainFormatter}
use Rattle.std.specs.List.{flat_map}
use Rattle.lock_svg.specs.Shapes.{shape_in}
use Rattle.lock_svg.proofs.svg.write_bars.Given as goal

-- the bars so far are written
abbrev pub invariant-loop-bar : goal.invariant-loop-bar
invariant-loop-bar g l =
    IsPlainFormatter l.initial.f
    → HasWritten g.W.Write.write_str_gives l.initial.f (flat_map (shape_in l.frame l.along l.columns l.lane l.height) (take l.bar-index l.bars)) l.f
