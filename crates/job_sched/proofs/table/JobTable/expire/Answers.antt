use Rattle.std.proofs.Common.{◌∙◌, sym}
use Rattle.lock_queue.specs.Jobs.{is_waiting_job}
use Rattle.job_sched.proofs.Limits.{IsTable-limited, expires-awake, table-awake, nobody}
use Rattle.job_sched.proofs.table.JobTable.expire.Goals as goal

pub invariant_of-self : goal.invariant_of-self
invariant_of-self g c =
    rw c.expire_all.ensures.jobs
    (IsTable-limited (is_waiting_job (g.L.LockTable.requests c.args.locks.now)) c.self.inside.jobs c.self.inside.sleepers
    c.self.inside.vacant_from c.self.invariant)

pub returns-else-self-clause-table : goal.returns-else-self-clause-table
returns-else-self-clause-table g c =
    rw (← c.self.view_is)
    (sym
    (table-awake (record { jobs = c.self.inside.jobs; current = c.self.inside.current; left = c.self.inside.left })
    (g.L.LockTable.requests c.args.locks.now) (c.self.invariant.awake c.if-self.false)))

pub returns-else-self-clause-ended : goal.returns-else-self-clause-ended
returns-else-self-clause-ended g c =
    λ n. rw (← c.self.view_is)
    (nobody n
    ∙ sym
    (expires-awake (g.L.LockTable.requests c.args.locks.now) c.self.inside.jobs (c.self.invariant.awake c.if-self.false) n))
