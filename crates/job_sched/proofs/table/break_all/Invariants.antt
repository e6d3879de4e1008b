use Rattle.std.proofs.Common.{◌≡◌, ◌++◌, take, drop, map}
use Rattle.std.specs.Option.{option_map}
use Rattle.job_sched.specs.Jobs.{broken_job}
use Rattle.job_sched.proofs.table.break_all.Given as goal

abbrev pub invariant-loop-slot : goal.invariant-loop-slot
invariant-loop-slot l =
    take l.slot-index l.jobs ++ map (option_map (broken_job l.line)) (drop l.slot-index l.jobs)
    ≡ map (option_map (broken_job l.line)) l.initial.jobs
