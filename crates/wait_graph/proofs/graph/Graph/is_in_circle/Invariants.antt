use Rattle.std.proofs.Common.{◌≡◌, ◌-◌, ◌&&◌}
use Rattle.std.specs.List.{list_any}
use Rattle.lock_queue.specs.Waits.{jobs, numbers_from}
use Rattle.wait_graph.specs.Pairs.{pair_in}
use Rattle.wait_graph.specs.declared.pairs.TheConstants.{NUMBERS}
use Rattle.wait_graph.proofs.graph.Graph.is_in_circle.Given as goal

abbrev pub invariant-loop-other : goal.invariant-loop-other
invariant-loop-other l =
    list_any (λ k. pair_in l.self.waits l.job k && pair_in l.self.circles l.job k) (numbers_from l.other (NUMBERS - l.other))
    ≡ list_any (λ k. pair_in l.self.waits l.job k && pair_in l.self.circles l.job k) jobs
