use Rattle.std.proofs.Common.{◌≡◌, ◌++◌, drop}
use Rattle.lock_reasons.specs.Ways.{way_of}
use Rattle.lock_reasons.proofs.ways.way_of.Given as goal

abbrev pub invariant-loop-r : goal.invariant-loop-r
invariant-loop-r l = l.way.items ++ way_of (drop l.r-index l.requests) l.w ≡ way_of l.requests l.w
