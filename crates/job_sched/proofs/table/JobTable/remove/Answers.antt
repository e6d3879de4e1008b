use Rattle.std.proofs.Common.{None, refl, arith}
use Rattle.job_sched.proofs.Sleepers.{IsTable-set}
use Rattle.job_sched.proofs.table.JobTable.remove.Goals as goal

pub invariant_of-self : goal.invariant_of-self
invariant_of-self c =
    IsTable-set c.self.inside.jobs c.args.number None c.self.inside.sleepers c.self.inside.sleepers c.self.inside.vacant_from _
    c.self.invariant (λ e. e) (λ _. refl)
    (omega (arith, c.self.invariant.most, c.vacant_without-self-inside.ensures.less)) (λ _. refl) c.vacant_without-self-inside.ensures.others

pub invariant_of-self-else-self-number : goal.invariant_of-self-else-self-number
invariant_of-self-else-self-number c =
    IsTable-set c.self.inside.jobs c.args.number None c.self.inside.sleepers c.self.inside.sleepers c.self.inside.vacant_from _
    c.self.invariant (λ e. e) (λ _. refl)
    (omega (arith, c.self.invariant.most, c.vacant_without-self-inside.ensures.less)) (λ _. refl) c.vacant_without-self-inside.ensures.others
