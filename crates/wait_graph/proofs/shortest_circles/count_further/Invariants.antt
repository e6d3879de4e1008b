use Rattle.std.proofs.Common.{◌≡◌, ◌<◌, ℕ, length, slice_index_or}
use Rattle.wait_graph.specs.declared.pairs.TheConstants.{NUMBERS}
use Rattle.wait_graph.specs.Steps.{counted}
use Rattle.wait_graph.proofs.shortest_circles.count_further.Given as goal

abbrev pub invariant-loop-job : goal.invariant-loop-job
invariant-loop-job l = record {
  size : length l.further ≡ NUMBERS;
  known : (j : ℕ) → j < l.job → slice_index_or l.further j 0 ≡ counted l.pairs l.steps l.round j l.target;
}
