use Rattle.std.proofs.Common.{◌≡◌, ◌++◌, drop, map}
use Rattle.lock_bars.specs.Holds.{hold_of}
use Rattle.lock_bars.proofs.holds.push_holds.Given as goal

abbrev pub invariant-loop-want : goal.invariant-loop-want
invariant-loop-want l =
    l.holds.items ++ map (hold_of l.request.job l.owns) (drop l.want-index l.want-items)
    ≡ l.initial.holds.items ++ map (hold_of l.request.job l.owns) l.request.wants.items
