use Rattle.std.proofs.Common.{◌+◌, ◌≤◌, arith}
use Rattle.job_sched.proofs.Circle.{behind-last}
use Rattle.job_sched.proofs.table.first_behind.Goals as goal

pub returns-then-number-le-JOBS-clause-found : goal.returns-then-number-le-JOBS-clause-found
returns-then-number-le-JOBS-clause-found c =
    λ test fails.
    let high : c.args.vacant_from ≤ c.args.number + 1 = omega (arith, c.if-from.false, c.from.ensures, c.from-2.ensures) in
    behind-last test c.args.number c.args.vacant_from high c.if-number-le-JOBS.true c.requires fails
