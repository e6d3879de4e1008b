use Rattle.std.proofs.Common.{length}
use Rattle.run_notes.proofs.circle_lines.+push_jobs.Given as goal

abbrev pub decreases-push_jobs : goal.decreases-push_jobs
decreases-push_jobs l = length l.jobs.now
