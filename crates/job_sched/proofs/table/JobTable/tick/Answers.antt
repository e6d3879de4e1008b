use Rattle.std.proofs.Common.{◌≡◌, ◌∙◌, sym, map, refl}
use Rattle.std.specs.Option.{option_map}
use Rattle.job_sched.specs.Jobs.{ticked_job}
use Rattle.job_sched.proofs.Sleepers.{IsTable-map, ticked-awake}
use Rattle.job_sched.proofs.table.JobTable.tick.Goals as goal

pub invariant_of-self : goal.invariant_of-self
invariant_of-self c =
    rw c.tick_all-self-inside.ensures.jobs
    (IsTable-map (option_map ticked_job) c.self.inside.jobs c.self.inside.sleepers c.tick_all-self-inside.result c.self.inside.vacant_from refl
    (λ e. rw (← c.tick_all-self-inside.ensures.jobs) (sym c.tick_all-self-inside.ensures.sleepers ∙ e)) c.self.invariant)

pub returns-else-self : goal.returns-else-self
returns-else-self c =
    let same : map (option_map ticked_job) c.self.inside.jobs ≡ c.self.inside.jobs = ticked-awake c.self.inside.jobs (c.self.invariant.awake c.if-self.false) in
    rw (← c.self.view_is, same, c.saturating_sub-self-inside.ensures) refl
