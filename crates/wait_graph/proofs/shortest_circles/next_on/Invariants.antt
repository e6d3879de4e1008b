use Rattle.std.proofs.Common.{◌≡◌, ◌-◌}
use Rattle.std.specs.List.{list_any}
use Rattle.lock_queue.specs.Waits.{jobs, numbers_from}
use Rattle.wait_graph.specs.declared.pairs.TheConstants.{NUMBERS}
use Rattle.wait_graph.specs.Steps.{is_nearer}
use Rattle.wait_graph.proofs.shortest_circles.next_on.Given as goal

abbrev pub invariant-loop-other : goal.invariant-loop-other
invariant-loop-other l =
    list_any (is_nearer l.pairs l.steps l.job) (numbers_from l.other (NUMBERS - l.other)) ≡ list_any (is_nearer l.pairs l.steps l.job) jobs
