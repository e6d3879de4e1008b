use Rattle.std.proofs.Common.{◌≡◌, map, take}
use Rattle.job_orders.specs.Endings.{job_ending, job_ending_of}
use Rattle.job_orders.specs.Views.{jobs_in}
use Rattle.job_orders.proofs.ends.are_same_jobs.Given as goal

abbrev pub invariant-loop-k : goal.invariant-loop-k
invariant-loop-k l = map job_ending_of (take l.k l.jobs) ≡ map job_ending (jobs_in l.machine l.k)
