use Rattle.std.proofs.Common.{◌≡◌, drop}
use Rattle.job_sched.specs.Changes.{first_free, free_number}
use Rattle.job_sched.proofs.table.JobTable.free_number.Given as goal

abbrev pub invariant-loop-number : goal.invariant-loop-number
invariant-loop-number l = first_free l.number (drop l.number l.self.jobs) ≡ free_number l.self.jobs
