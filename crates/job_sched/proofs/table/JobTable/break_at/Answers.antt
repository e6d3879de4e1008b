use Rattle.std.proofs.Common.{refl}
use Rattle.job_sched.proofs.Sleepers.{IsTable-map, awake-map, sleeper-broken}
use Rattle.job_sched.proofs.table.JobTable.break_at.Goals as goal

pub invariant_of-self : goal.invariant_of-self
invariant_of-self c =
    rw c.break_all.ensures
    (IsTable-map _ c.self.inside.jobs c.self.inside.sleepers c.self.inside.sleepers c.self.inside.vacant_from refl
    (λ e. awake-map _ c.self.inside.jobs (sleeper-broken c.args.line) (c.self.invariant.awake e)) c.self.invariant)
