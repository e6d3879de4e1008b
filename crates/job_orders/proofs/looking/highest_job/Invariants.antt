use Rattle.std.proofs.Common.{◌≡◌, ◌≤◌}
use Rattle.job_orders.specs.Endings.{highest_job}
use Rattle.job_orders.proofs.looking.highest_job.Given as goal

abbrev pub invariant-loop-k : goal.invariant-loop-k
invariant-loop-k l = (l.highest ≡ highest_job l.jobs l.k) × (l.highest ≤ l.k)
