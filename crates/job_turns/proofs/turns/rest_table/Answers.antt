use Rattle.std.proofs.Common.{refl}
use Rattle.job_sched.proofs.Sleepers.{IsTable-map, awake-map}
use Rattle.job_turns.proofs.Turning.{sleeper-rested}
use Rattle.job_turns.proofs.turns.rest_table.Goals as goal

pub invariant_of-table : goal.invariant_of-table
invariant_of-table c =
    rw c.rest_all.ensures
    (IsTable-map _ c.table.inside.jobs c.table.inside.sleepers c.table.inside.sleepers c.table.inside.vacant_from refl
    (λ e. awake-map _ c.table.inside.jobs sleeper-rested (c.table.invariant.awake e)) c.table.invariant)
