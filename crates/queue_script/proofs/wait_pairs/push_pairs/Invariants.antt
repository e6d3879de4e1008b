use Rattle.std.proofs.Common.{◌≡◌, ◌++◌, ◌-◌}
use Rattle.std.specs.List.{flat_map}
use Rattle.lock_queue.specs.Waits.{jobs, numbers_from}
use Rattle.wait_graph.specs.Pairs.{pair_in}
use Rattle.queue_script.specs.WaitPairs.{pair_line}
use Rattle.wait_graph.specs.declared.pairs.TheConstants.{NUMBERS}
use Rattle.queue_script.proofs.wait_pairs.push_pairs.Given as goal

abbrev pub invariant-loop-job : goal.invariant-loop-job
invariant-loop-job l =
    let waits = pair_in l.pairs in
    l.out.items ++ flat_map (λ j. flat_map (pair_line waits j) jobs) (numbers_from l.job (NUMBERS - l.job))
    ≡ l.initial.out.items ++ flat_map (λ j. flat_map (pair_line waits j) jobs) jobs
