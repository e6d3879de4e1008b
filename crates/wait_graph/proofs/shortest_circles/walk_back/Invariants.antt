-- The jobs so far wait each for the next one, and there is room for those that are still to come.
use Rattle.std.proofs.Common.{◌≡◌, ◌<◌, ◌≤◌, ◌+◌, Some, length, slice_get, slice_index_or}
use Rattle.wait_graph.specs.Pairs.{pair_in}
use Rattle.wait_graph.specs.declared.pairs.TheConstants.{NUMBERS}
use Rattle.wait_graph.proofs.StepLemmas.{ReachesTo}
use Rattle.wait_graph.proofs.shortest_circles.walk_back.Given as goal

abbrev pub invariant-loop-at : goal.invariant-loop-at
invariant-loop-at l = record {
  within : l.at < NUMBERS;
  some : 0 < slice_index_or l.steps l.at 0;
  first : slice_get l.circle.items 0 ≡ Some l.target;
  walk : ReachesTo (pair_in l.pairs) l.circle.items l.at;
  few : length l.circle.items + slice_index_or l.steps l.at 0 ≤ slice_index_or l.steps l.target 0 + 1;
}

abbrev pub decreases-loop-at : goal.decreases-loop-at
decreases-loop-at l = slice_index_or l.steps l.at 0
