use Rattle.std.proofs.Common.{◌≡◌, ◌++◌, ◌-◌}
use Rattle.std.specs.List.{flat_map}
use Rattle.lock_queue.specs.Waits.{jobs, numbers_from}
use Rattle.wait_graph.specs.Pairs.{pair_in}
use Rattle.queue_script.specs.WaitPairs.{pair_line}
use Rattle.wait_graph.specs.declared.pairs.TheConstants.{NUMBERS}
use Rattle.queue_script.proofs.wait_pairs.push_pairs_of.Given as goal

abbrev pub invariant-loop-other : goal.invariant-loop-other
invariant-loop-other l =
    let line = pair_line (pair_in l.pairs) l.job in
    l.out.items ++ flat_map line (numbers_from l.other (NUMBERS - l.other)) ≡ l.initial.out.items ++ flat_map line jobs
