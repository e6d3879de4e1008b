use Rattle.std.proofs.Common.{◌≡◌, map}
use Rattle.job_orders.specs.Endings.{job_ending, job_ending_of}
use Rattle.job_orders.specs.Views.{jobs_in}
use Rattle.job_orders.proofs.ends.all_left.Given as goal

abbrev pub invariant-loop-k : goal.invariant-loop-k
invariant-loop-k l = map job_ending_of l.jobs.items ≡ map job_ending (jobs_in l.machine l.k)
