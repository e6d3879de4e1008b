use Rattle.std.proofs.Common.{◌≡◌, ◌++◌, take}
use Rattle.std.specs.List.{flat_map}
use Rattle.order_report.specs.Texts.{job_line}
use Rattle.order_report.proofs.text.push_job_lines.Given as goal

abbrev pub invariant-loop-job : goal.invariant-loop-job
invariant-loop-job l = l.out.items ≡ l.initial.out.items ++ flat_map job_line (take l.job-index l.jobs)
