use Rattle.std.proofs.Common.{◌≡◌, ◌&&◌, ◌-◌, false, slice_index_or}
use Rattle.std.specs.List.{list_any}
use Rattle.lock_queue.specs.Waits.{jobs, numbers_from}
use Rattle.wait_graph.specs.Pairs.{pair_in}
use Rattle.wait_graph.specs.declared.pairs.TheConstants.{NUMBERS}
use Rattle.wait_graph.proofs.circles.has_step.Given as goal

abbrev pub invariant-loop-other : goal.invariant-loop-other
invariant-loop-other l =
    list_any (λ m. pair_in l.pairs l.job m && slice_index_or l.reached m false) (numbers_from l.other (NUMBERS - l.other))
    ≡ list_any (λ m. pair_in l.pairs l.job m && slice_index_or l.reached m false) jobs
