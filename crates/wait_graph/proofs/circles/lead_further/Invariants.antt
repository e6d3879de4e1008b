use Rattle.std.proofs.Common.{◌≡◌, ◌<◌, ◌&&◌, ◌||◌, ℕ, false, length, slice_index_or}
use Rattle.std.specs.List.{list_any}
use Rattle.lock_queue.specs.Waits.{jobs}
use Rattle.wait_graph.specs.Pairs.{pair_in}
use Rattle.wait_graph.specs.declared.pairs.TheConstants.{NUMBERS}
use Rattle.wait_graph.proofs.circles.lead_further.Given as goal

abbrev pub invariant-loop-job : goal.invariant-loop-job
invariant-loop-job l = record {
  size : length l.further ≡ NUMBERS;
  known : (j : ℕ) → j < l.job → slice_index_or l.further j false
      ≡ (pair_in l.pairs j l.target || list_any (λ m. pair_in l.pairs j m && slice_index_or l.reached m false) jobs);
}
