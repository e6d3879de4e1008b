use Rattle.std.proofs.Common.{◌≡◌, ◌+◌, drop}
use Rattle.mac_layout.specs.LaidOut.{Layout, laid_out, empty_layout}
use Rattle.mac_layout.specs.Layouts.{StandsFor}
use Rattle.mac_layout.proofs.layout.lay_out.Given as goal

-- the lines so far are laid out, and those to come from there on
abbrev pub invariant-loop-i : goal.invariant-loop-i
invariant-loop-i l = (s : Layout) × StandsFor l.progress s × (laid_out s (l.i + 1) (drop l.i l.lines) ≡ laid_out empty_layout 1 l.lines)
