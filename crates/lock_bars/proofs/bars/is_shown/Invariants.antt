use Rattle.std.proofs.Common.{◌≡◌, drop}
use Rattle.std.specs.List.{list_any}
use Rattle.lock_bars.specs.Bars.{shows}
use Rattle.lock_bars.proofs.bars.is_shown.Given as goal

abbrev pub invariant-loop-bar : goal.invariant-loop-bar
invariant-loop-bar l = list_any (shows l.line l.hold) (drop l.bar-index l.bars) ≡ list_any (shows l.line l.hold) l.bars
