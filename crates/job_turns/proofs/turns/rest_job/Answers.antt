use Rattle.std.proofs.Common.{◌<◌, ◌∙◌, ap, length, arith}
use Rattle.std.proofs.Math.ListN.{get_or}
use Rattle.std.specs.Option.{option_map}
use Rattle.job_order_laws.specs.Erased.{rested}
use Rattle.job_sched.proofs.Sleepers.{IsTable-changed, awake-at, none-at}
use Rattle.job_sched.specs.Tables.{is_sleeper}
use Rattle.job_turns.proofs.Turning.{sleeper-rested}
use Rattle.job_turns.proofs.turns.rest_job.Goals as goal

pub invariant_of-table : goal.invariant_of-table
invariant_of-table c =
    let low : c.args.n < length c.table.inside.jobs = omega (arith, c.table.invariant.slots, c.requires) in
    IsTable-changed c.table.inside.jobs c.args.n _ c.table.inside.sleepers c.table.inside.sleepers c.table.inside.vacant_from c.table.invariant (λ e. e)
    (λ e. ap is_sleeper c.rest.ensures ∙ sleeper-rested (get_or c.table.inside.jobs c.args.n c.index-table-n.result) (awake-at c.table.inside.jobs c.args.n c.index-table-n.result low (c.table.invariant.awake e)))
    (λ e. c.rest.ensures ∙ ap (option_map rested) (none-at c.table.inside.jobs c.args.n c.index-table-n.result low ∙ e))
