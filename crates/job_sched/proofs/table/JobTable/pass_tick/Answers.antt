use Rattle.std.proofs.Common.{◌≡◌, ◌-◌, ◌∙◌, sym, map}
use Rattle.std.specs.Option.{option_map}
use Rattle.job_sched.specs.Jobs.{ticked_job}
use Rattle.job_sched.specs.Tables.{Table}
use Rattle.job_sched.proofs.Limits.{expires-awake, table-awake, nobody}
use Rattle.job_sched.proofs.Sleepers.{ticked-awake}
use Rattle.job_sched.proofs.table.JobTable.pass_tick.Goals as goal

-- where ticks count for nobody only the quantum is shorter
pub returns-else-self-clause-table : goal.returns-else-self-clause-table
returns-else-self-clause-table g c =
    let same : map (option_map ticked_job) c.self.inside.jobs ≡ c.self.inside.jobs = ticked-awake c.self.inside.jobs (c.self.invariant.awake c.if-self.false) in
    let t : Table = record { jobs = c.self.inside.jobs; current = c.self.inside.current; left = c.self.inside.left - 1 } in
    rw (← c.self.view_is, same, c.saturating_sub-self-inside.ensures)
    (sym (table-awake t (g.L.LockTable.requests c.args.locks.now) (c.self.invariant.awake c.if-self.false)))

pub returns-else-self-clause-ended : goal.returns-else-self-clause-ended
returns-else-self-clause-ended g c =
    let same : map (option_map ticked_job) c.self.inside.jobs ≡ c.self.inside.jobs = ticked-awake c.self.inside.jobs (c.self.invariant.awake c.if-self.false) in
    λ n. rw (← c.self.view_is, same)
    (nobody n
    ∙ sym
    (expires-awake (g.L.LockTable.requests c.args.locks.now) c.self.inside.jobs (c.self.invariant.awake c.if-self.false) n))
