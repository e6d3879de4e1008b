use Rattle.std.proofs.Common.{◌<◌, ◌∙◌, length, arith}
use Rattle.job_sched.proofs.Sleepers.{IsTable-changed, awake-at, none-at}
use Rattle.job_sched.proofs.table.JobTable.resume.Goals as goal

pub invariant_of-self-2 : goal.invariant_of-self-2
invariant_of-self-2 c =
    let low : c.args.number < length c.self.inside.jobs = omega (arith, c.self.invariant.slots) in
    IsTable-changed c.self.inside.jobs c.args.number _ c.self.inside.sleepers c.self.inside.sleepers c.self.inside.vacant_from c.self.invariant (λ e. e)
    (λ e. c.resume_slot.ensures.awake (awake-at c.self.inside.jobs c.args.number _ low (c.self.invariant.awake e)))
    (λ e. c.resume_slot.ensures.none (none-at c.self.inside.jobs c.args.number _ low ∙ e))
