use Rattle.std.proofs.Common.{◌≡◌, ◌++◌, take, drop, map}
use Rattle.std.specs.Option.{option_map}
use Rattle.job_sched.specs.Jobs.{ticked_job}
use Rattle.job_sched.proofs.table.tick_all.Given as goal

abbrev pub invariant-loop-slot : goal.invariant-loop-slot
invariant-loop-slot l = take l.slot-index l.jobs ++ map (option_map ticked_job) (drop l.slot-index l.jobs) ≡ map (option_map ticked_job) l.initial.jobs
