use Rattle.std.proofs.Common.{◌≡◌, ◌-◌, ◌++◌}
use Rattle.std.specs.List.{flat_map}
use Rattle.lock_queue.specs.Waits.{jobs, numbers_from}
use Rattle.wait_graph.specs.declared.pairs.TheConstants.{NUMBERS}
use Rattle.wait_graph.specs.LockWaits.{keeper}
use Rattle.wait_graph.proofs.lock_waits.keepers.Given as goal

abbrev pub invariant-loop-other : goal.invariant-loop-other
invariant-loop-other l =
    l.found.items ++ flat_map (keeper l.is_held l.requests l.job l.earlier l.w) (numbers_from l.other (NUMBERS - l.other))
    ≡ flat_map (keeper l.is_held l.requests l.job l.earlier l.w) jobs
