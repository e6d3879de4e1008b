use Rattle.std.proofs.Common.{◌≡◌, ◌++◌, take, drop, map}
use Rattle.lock_bars.specs.Bars.{extended}
use Rattle.lock_bars.proofs.bars.extend_all.Given as goal

abbrev pub invariant-loop-bar : goal.invariant-loop-bar
invariant-loop-bar l =
    take l.bar-index l.bars ++ map (extended l.line l.holds) (drop l.bar-index l.bars) ≡ map (extended l.line l.holds) l.initial.bars
