use Rattle.monitor_laws.proofs.Stretching.{some-stretch, wait-stretch}
use Rattle.monitor.proofs.turn.run_turn.Goals as goal

pub returns-clause-core : goal.returns-clause-core
returns-clause-core g c =
    rw c.take_turn.ensures.cores
    (some-stretch c.args.number c.take_turn.result.0 c.args.job.now (g.C.CoreStore.meaning c.args.cores.now)
    (g.L.LockTable.requests c.args.locks.now) c.requires.core)

pub returns-clause-wait : goal.returns-clause-wait
returns-clause-wait g c =
    rw c.take_turn.ensures.job
    (wait-stretch c.args.number c.take_turn.result.0 c.args.job.now (g.C.CoreStore.meaning c.args.cores.now)
    (g.L.LockTable.requests c.args.locks.now))
