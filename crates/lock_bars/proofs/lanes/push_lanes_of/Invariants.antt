use Rattle.std.proofs.Common.{◌≡◌, ◌++◌, take, drop, map}
use Rattle.lock_bars.specs.Lanes.{locks_behind, locks_of, row_of}
use Rattle.lock_bars.proofs.lanes.push_lanes_of.Given as goal

abbrev pub invariant-loop-i : goal.invariant-loop-i
invariant-loop-i l =
    map row_of l.lanes.items ++ locks_behind l.job (take l.i l.bars) (drop l.i l.bars)
    ≡ map row_of l.initial.lanes.items ++ locks_of l.bars l.job
