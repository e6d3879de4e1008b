use Rattle.std.proofs.Common.{◌≡◌, drop}
use Rattle.std.specs.Prelude.{◌||◌}
use Rattle.std.specs.List.{list_any}
use Rattle.ten.specs.Jobs.{sleeps, waits_for_input, waits_with_limit}
use Rattle.ten.proofs.waits.Waits.of_all.Given as goal

-- the waits so far, and those of the other jobs, are all
abbrev pub invariant-loop-job : goal.invariant-loop-job
invariant-loop-job l = record {
  input : (l.all.input || list_any (waits_for_input l.machine) (drop l.job-index l.jobs)) ≡ list_any (waits_for_input l.machine) l.jobs;
  limit : (l.all.limit || list_any (waits_with_limit l.machine) (drop l.job-index l.jobs)) ≡ list_any (waits_with_limit l.machine) l.jobs;
  sleep : (l.all.sleep || list_any (sleeps l.machine) (drop l.job-index l.jobs)) ≡ list_any (sleeps l.machine) l.jobs;
}
