use Rattle.std.proofs.Common.{◌≡◌}
use Rattle.job_orders.specs.Endings.{circle_in}
use Rattle.job_orders.proofs.looking.circle_jobs.Given as goal

abbrev pub invariant-loop-k : goal.invariant-loop-k
invariant-loop-k g l = l.jobs.items ≡ circle_in l.k (g.L.LockTable.requests l.locks)
