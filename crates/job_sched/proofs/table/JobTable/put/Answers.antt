use Rattle.std.proofs.Common.{◌∙◌, sym, Some, arith}
use Rattle.job_sched.proofs.Sleepers.{IsTable-set, left-none, right-none}
use Rattle.job_sched.proofs.table.JobTable.put.Goals as goal

pub invariant_of-self : goal.invariant_of-self
invariant_of-self c =
    IsTable-set c.self.inside.jobs c.args.number (Some c.args.job) c.self.inside.sleepers _ c.self.inside.vacant_from _ c.self.invariant
    (λ e. left-none c.self.inside.sleepers c.is_asleep.result e)
    (λ e. sym c.is_asleep.ensures ∙ right-none c.self.inside.sleepers c.is_asleep.result e)
    (omega (arith, c.self.invariant.most))
    (λ high. absurd (omega arith))
    (λ m high d. omega arith)
