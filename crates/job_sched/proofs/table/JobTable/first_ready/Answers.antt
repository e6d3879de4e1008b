use Rattle.std.proofs.Common.{◌≡◌, ◌≤◌, ◌-◌, ◌+◌, ◌∙◌, arith, sym, ap, min, ℕ, Bool, List, Option}
use Rattle.word36.specs.declared.sizes.TheConstants.{JOBS}
use Rattle.lock_queue.specs.declared.request.Request.{Request}
use Rattle.tty_lines.specs.Rings.{Rings}
use Rattle.job_sched.specs.Ready.{first_from, is_ready, is_ready_job}
use Rattle.job_sched.specs.Tables.{IsTable}
use Rattle.job_sched.specs.declared.job.Job.{Job}
use Rattle.job_sched.proofs.Circle.{circle, or_else, or-found, or-other}
use Rattle.job_sched.proofs.table.JobTable.first_ready.Goals as goal

-- nobody is ready at a number where no job is
all-asked : (jobs : List (Option Job)) (lines : List Rings) (requests : List Request) (sleepers : Bool) (vacant end from : ℕ)
    → IsTable jobs sleepers vacant → end ≡ min vacant (JOBS + 1) → 1 ≤ from
    → from ≤ JOBS
    → first_from (is_ready jobs lines requests) JOBS from
    ≡ or_else (first_from (is_ready jobs lines requests) (end - from) from) (first_from (is_ready jobs lines requests) (min from end - 1) 1)
all-asked jobs lines requests sleepers vacant end from h cut some most =
    let room = h.most in
    let same : end ≡ vacant = omega arith in
    circle (is_ready jobs lines requests) from end some most (omega arith)
    (λ m high. ap (λ (o : Option Job). is_ready_job lines requests m o) (h.vacant m (rw (← same) high)))

pub returns-in-Some : goal.returns-in-Some
returns-in-Some g c =
    let e =
    all-asked c.self.inside.jobs c.args.lines.now (g.L.LockTable.requests c.args.locks.now) c.self.inside.sleepers
    c.self.inside.vacant_from c.min-end.result c.args.from c.self.invariant c.min-end.ensures c.requires.least c.requires.most in
    let f =
    or-found _
    (first_from (is_ready c.self.inside.jobs c.args.lines.now (g.L.LockTable.requests c.args.locks.now))
    (min c.args.from c.min-end.result - 1) 1) c.in-Some.number (sym c.in-Some.is ∙ c.first_between.ensures) in
    rw (← c.self.view_is) (rw (← c.self.view_is) at f ∙ sym e)

pub returns-in-None : goal.returns-in-None
returns-in-None g c =
    let e =
    all-asked c.self.inside.jobs c.args.lines.now (g.L.LockTable.requests c.args.locks.now) c.self.inside.sleepers
    c.self.inside.vacant_from c.min-end.result c.args.from c.self.invariant c.min-end.ensures c.requires.least c.requires.most in
    let none = sym c.in-None.is ∙ c.first_between.ensures in
    let rest = c.first_between-in-None.ensures in
    rw (← c.self.view_is)
    ((rw (← c.self.view_is, c.min.ensures) at rest) ∙ or-other _ _ (rw (← c.self.view_is) at none) ∙ sym e)
