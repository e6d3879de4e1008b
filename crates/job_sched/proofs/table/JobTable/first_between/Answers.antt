use Rattle.std.proofs.Common.{◌-◌, arith}
use Rattle.std.proofs.lemmas.Grind.{common_steps}
use Rattle.job_sched.specs.Ready.{is_ready}
use Rattle.job_sched.proofs.Circle.{first_from-zero, first_from-next}
use Rattle.job_sched.proofs.table.JobTable.first_between.Goals as goal

pub returns-then-is_ready_at : goal.returns-then-is_ready_at
returns-then-is_ready_at g c =
    let e =
    first_from-next (is_ready c.args.self.now.jobs c.args.lines.now (g.L.LockTable.requests c.args.locks.now)) c.args.to
    c.loop-number.number (omega arith) (omega arith) in
    grind (arith, common_steps, e, c.loop-number.invariant)

pub loop-number-preserved : goal.loop-number-preserved
loop-number-preserved g c =
    let e =
    first_from-next (is_ready c.args.self.now.jobs c.args.lines.now (g.L.LockTable.requests c.args.locks.now)) c.args.to
    c.loop-number.number (omega arith) (omega arith) in
    grind (arith, common_steps, e, c.loop-number.invariant)

pub returns : goal.returns
returns g c =
    let e =
    first_from-zero (is_ready c.args.self.now.jobs c.args.lines.now (g.L.LockTable.requests c.args.locks.now))
    (c.args.to - c.loop-number.number) c.loop-number.number (omega arith) in
    grind (arith, common_steps, e, c.loop-number.invariant)
