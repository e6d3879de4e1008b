use Rattle.std.proofs.Common.{◌≡◌, ◌-◌}
use Rattle.job_sched.specs.Ready.{first_from, is_ready}
use Rattle.job_sched.proofs.table.JobTable.first_between.Given as goal

abbrev pub invariant-loop-number : goal.invariant-loop-number
invariant-loop-number g l =
    first_from (is_ready l.self.jobs l.lines (g.L.LockTable.requests l.locks)) (l.to - l.number) l.number
    ≡ first_from (is_ready l.self.jobs l.lines (g.L.LockTable.requests l.locks)) (l.to - l.from) l.from
