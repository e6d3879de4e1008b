use Rattle.std.proofs.Common.{◌≡◌, ◌-◌, ◌++◌, map}
use Rattle.std.specs.List.{flat_map}
use Rattle.lock_queue.specs.Waits.{numbers_from}
use Rattle.lock_bars.specs.Lanes.{lanes_of, locks_of, row_of}
use Rattle.wait_graph.specs.declared.pairs.TheConstants.{NUMBERS}
use Rattle.lock_bars.proofs.lanes.lanes_of.Given as goal

abbrev pub invariant-loop-job : goal.invariant-loop-job
invariant-loop-job l =
    map row_of l.lanes.items ++ flat_map (locks_of l.bars) (numbers_from l.job (NUMBERS - l.job)) ≡ lanes_of l.bars
