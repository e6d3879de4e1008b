use Rattle.std.proofs.Common.{◌≡◌, ◌<◌, ◌/◌, ◌%◌, ℕ, false, length, slice_index_or}
use Rattle.lock_queue.specs.Waits.{waits_hard_for}
use Rattle.wait_graph.specs.declared.pairs.TheConstants.{NUMBERS, PAIRS}
use Rattle.wait_graph.proofs.pairs.hard_table.Given as goal

abbrev pub invariant-loop-i : goal.invariant-loop-i
invariant-loop-i l = record {
  size : length l.pairs ≡ PAIRS;
  known : (k : ℕ) → k < l.i → slice_index_or l.pairs k false ≡ waits_hard_for l.requests (k / NUMBERS) (k % NUMBERS);
}
