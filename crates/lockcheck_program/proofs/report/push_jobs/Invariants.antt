use Rattle.std.proofs.Common.{◌≡◌, ◌++◌, take}
use Rattle.lockcheck_program.specs.Reports.{jobs_text}
use Rattle.lockcheck_program.proofs.report.push_jobs.Given as goal

abbrev pub invariant-loop-job : goal.invariant-loop-job
invariant-loop-job l = l.out.items ≡ l.initial.out.items ++ jobs_text (take l.job-index l.jobs)
