use Rattle.std.proofs.Common.{◌≡◌, drop}
use Rattle.std.specs.List.{list_any}
use Rattle.lock_table.specs.Reads.{is_job_queued_at}
use Rattle.lock_table.proofs.refusals.is_job_queued.Given as goal

abbrev pub invariant-loop-p : goal.invariant-loop-p
invariant-loop-p g l = list_any (is_job_queued_at l.store l.job l.n) (drop l.p-index l.slots) ≡ list_any (is_job_queued_at l.store l.job l.n) l.slots
