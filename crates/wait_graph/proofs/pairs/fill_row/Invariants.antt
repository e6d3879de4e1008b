-- The positions of the row before the next one are filled in, and no other row is touched.
use Rattle.std.proofs.Common.{◌≡◌, ◌<◌, ◌≤◌, ◌+◌, ◌*◌, ℕ, false, length, slice_index_or}
use Rattle.lock_queue.specs.Jobs.{waits_for}
use Rattle.wait_graph.specs.declared.pairs.TheConstants.{NUMBERS, PAIRS}
use Rattle.wait_graph.proofs.pairs.fill_row.Given as goal

abbrev pub invariant-loop-other : goal.invariant-loop-other
invariant-loop-other g l = record {
  size : length l.pairs ≡ PAIRS;
  own : (k : ℕ) → k < l.other → slice_index_or l.pairs (NUMBERS * l.job + k) false ≡ waits_for (g.L.LockTable.requests l.table) l.job k;
  before : (i : ℕ) → i < NUMBERS * l.job → slice_index_or l.pairs i false ≡ slice_index_or l.initial.pairs i false;
  behind : (i : ℕ) → NUMBERS * l.job + NUMBERS ≤ i → slice_index_or l.pairs i false ≡ slice_index_or l.initial.pairs i false;
}
