use Rattle.std.proofs.Common.{◌≡◌, ◌-◌}
use Rattle.std.specs.List.{list_any}
use Rattle.lock_queue.specs.Waits.{jobs, numbers_from}
use Rattle.wait_graph.specs.declared.pairs.TheConstants.{NUMBERS}
use Rattle.wait_graph.specs.Graphs.{has_wait}
use Rattle.wait_graph.proofs.graph.Graph.is_empty.Given as goal

abbrev pub invariant-loop-job : goal.invariant-loop-job
invariant-loop-job l = list_any (has_wait l.self) (numbers_from l.job (NUMBERS - l.job)) ≡ list_any (has_wait l.self) jobs
