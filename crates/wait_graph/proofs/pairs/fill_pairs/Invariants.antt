-- The rows of the jobs before the next one are filled in, and the others are empty.
use Rattle.std.proofs.Common.{◌≡◌, ◌<◌, ◌≤◌, ◌*◌, ◌/◌, ◌%◌, ℕ, false, length, slice_index_or}
use Rattle.lock_queue.specs.Jobs.{waits_for}
use Rattle.wait_graph.specs.declared.pairs.TheConstants.{NUMBERS, PAIRS}
use Rattle.wait_graph.proofs.pairs.fill_pairs.Given as goal

abbrev pub invariant-loop-job : goal.invariant-loop-job
invariant-loop-job g l = record {
  size : length l.pairs ≡ PAIRS;
  known : (i : ℕ) → i < NUMBERS * l.job → slice_index_or l.pairs i false ≡ waits_for (g.L.LockTable.requests l.table) (i / NUMBERS) (i % NUMBERS);
  empty : (i : ℕ) → NUMBERS * l.job ≤ i → slice_index_or l.pairs i false ≡ false;
}
