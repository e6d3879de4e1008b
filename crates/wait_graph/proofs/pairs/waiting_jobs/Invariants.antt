use Rattle.std.proofs.Common.{◌≡◌, ◌<◌, ℕ, false, length, slice_index_or}
use Rattle.lock_queue.specs.Jobs.{is_waiting_job}
use Rattle.wait_graph.specs.declared.pairs.TheConstants.{NUMBERS}
use Rattle.wait_graph.proofs.pairs.waiting_jobs.Given as goal

abbrev pub invariant-loop-job : goal.invariant-loop-job
invariant-loop-job g l = record {
  size : length l.waiting ≡ NUMBERS;
  known : (j : ℕ) → j < l.job → slice_index_or l.waiting j false ≡ is_waiting_job (g.L.LockTable.requests l.table) j;
}
