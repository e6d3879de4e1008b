use Rattle.std.proofs.Common.{◌≡◌, ◌<◌, ◌/◌, ◌%◌, ℕ, false, length, slice_index_or}
use Rattle.wait_graph.specs.Pairs.{pair_in}
use Rattle.wait_graph.specs.Graphs.{closes_circle}
use Rattle.wait_graph.specs.declared.pairs.TheConstants.{NUMBERS, PAIRS}
use Rattle.wait_graph.proofs.circles.circle_table.Given as goal

abbrev pub invariant-loop-i : goal.invariant-loop-i
invariant-loop-i l = record {
  size : length l.circles ≡ PAIRS;
  known : (k : ℕ) → k < l.i → slice_index_or l.circles k false ≡ closes_circle (pair_in l.pairs) (k / NUMBERS) (k % NUMBERS);
}
