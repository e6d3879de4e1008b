use Rattle.std.proofs.Common.{◌≡◌, ◌++◌, take}
use Rattle.order_report.specs.Texts.{jobs_text}
use Rattle.order_report.proofs.text.push_jobs.Given as goal

abbrev pub invariant-loop-job : goal.invariant-loop-job
invariant-loop-job l = l.out.items ≡ l.initial.out.items ++ jobs_text (take l.job-index l.jobs)
