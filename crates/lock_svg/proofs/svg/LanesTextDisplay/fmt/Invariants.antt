use Rattle.std.proofs.Common.{◌≡◌, ◌++◌, List, ℕ, drop}
use Rattle.std.specs.Fmt.{HasWritten, IsPlainFormatter}
use Rattle.lock_svg.specs.Pictures.{lanes_from}
use Rattle.lock_svg.specs.declared.frame.TheConstants.{TOP}
use Rattle.lock_svg.proofs.svg.LanesTextDisplay.fmt.Given as goal

-- the lanes so far are written, and those behind them are to come
abbrev pub invariant-loop-lane : goal.invariant-loop-lane
invariant-loop-lane g l =
    let from = lanes_from l.self.frame.now l.self.along l.self.columns.now l.self.bars.now in
    IsPlainFormatter l.initial.f
    → (written : List ℕ) × HasWritten g.W.Write.write_str_gives l.initial.f written l.f
    × (written ++ from l.height l.last (drop l.lane-index l.self.lanes.now) ≡ from TOP 0 l.self.lanes.now)
