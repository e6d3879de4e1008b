use Rattle.std.proofs.Common.{◌∙◌, sym}
use Rattle.std.proofs.lemmas.Bool.{false≢true}
use Rattle.job_sched.proofs.Sleepers.{IsTable-changed, left-none, right-none}
use Rattle.uuo_calls.proofs.calls.perform.Goals as goal

pub invariant_of-table : goal.invariant_of-table
invariant_of-table g c =
    let there = rw (← c.table.view_is) at c.requires.there in
    IsTable-changed c.table.inside.jobs c.args.number _ c.table.inside.sleepers _ c.table.inside.vacant_from c.table.invariant
    (λ e. left-none c.table.inside.sleepers c.is_asleep.result e)
    (λ e. sym c.is_asleep.ensures ∙ right-none c.table.inside.sleepers c.is_asleep.result e)
    (λ e. absurd (false≢true (rw e at there)))
