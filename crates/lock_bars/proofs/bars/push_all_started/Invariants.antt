use Rattle.std.proofs.Common.{◌≡◌, ◌++◌, drop}
use Rattle.std.specs.List.{flat_map}
use Rattle.lock_bars.specs.Bars.{started}
use Rattle.lock_bars.proofs.bars.push_all_started.Given as goal

abbrev pub invariant-loop-hold : goal.invariant-loop-hold
invariant-loop-hold l =
    l.added.items ++ flat_map (started l.line l.bars) (drop l.hold-index l.holds)
    ≡ l.initial.added.items ++ flat_map (started l.line l.bars) l.holds
