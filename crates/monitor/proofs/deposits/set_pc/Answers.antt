use Rattle.std.proofs.Common.{◌<◌, ◌∙◌, length, arith}
use Rattle.job_sched.proofs.Sleepers.{IsTable-changed, awake-at, none-at}
use Rattle.monitor.proofs.deposits.set_pc.Goals as goal

pub invariant_of-table-2 : goal.invariant_of-table-2
invariant_of-table-2 c =
    let low : c.args.n < length c.table.inside.jobs = omega (arith, c.table.invariant.slots) in
    IsTable-changed c.table.inside.jobs c.args.n _ c.table.inside.sleepers c.table.inside.sleepers c.table.inside.vacant_from c.table.invariant (λ e. e)
    (λ e. c.set_pc_in.ensures.asleep ∙ awake-at c.table.inside.jobs c.args.n _ low (c.table.invariant.awake e))
    (λ e. c.set_pc_in.ensures.none (none-at c.table.inside.jobs c.args.n _ low ∙ e))
