use Rattle.std.proofs.Common.{ap}
use Rattle.job_sched.specs.Jobs.{is_sleep}
use Rattle.monitor.proofs.AwakeJobs.{IsTable-awake}
use Rattle.monitor.proofs.turn.run_job.Goals as goal

pub invariant_of-world-inside-2 : goal.invariant_of-world-inside-2
invariant_of-world-inside-2 g c =
    IsTable-awake _ c.args.n _ c.in-Some.job c.take_one_turn-call.new.job _ _ c.world-inside.invariant c.requires.number.1 c.in-Some.is
    (ap is_sleep c.take_one_turn-call.ensures.wait)
