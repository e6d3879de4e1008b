use Rattle.std.proofs.Common.{◌≡◌, drop}
use Rattle.std.specs.List.{list_any}
use Rattle.lock_bars.specs.Bars.{ends_at_grant}
use Rattle.lock_bars.proofs.bars.Bar.ends_wait.Given as goal

abbrev pub invariant-loop-earlier : goal.invariant-loop-earlier
invariant-loop-earlier l = list_any (ends_at_grant l.self) (drop l.earlier-index l.bars) ≡ list_any (ends_at_grant l.self) l.bars
