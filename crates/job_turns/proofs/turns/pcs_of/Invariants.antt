use Rattle.std.proofs.Common.{◌≡◌, ◌<◌, ℕ, None, length}
use Rattle.std.proofs.Math.ListN.{get_or}
use Rattle.job_sched.specs.declared.table.TheConstants.{JOB_SLOTS}
use Rattle.job_order_laws.specs.Turned.{pc_in}
use Rattle.job_turns.proofs.turns.pcs_of.Given as goal

abbrev pub invariant-loop-n : goal.invariant-loop-n
invariant-loop-n l = record {
  count : length l.pcs ≡ JOB_SLOTS;
  so_far : (k : ℕ) → k < l.n → get_or l.pcs k 0 ≡ pc_in (get_or l.jobs k None);
}
