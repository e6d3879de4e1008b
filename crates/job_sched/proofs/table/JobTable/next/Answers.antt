use Rattle.std.proofs.Common.{◌≡◌, ◌≤◌, ◌<◌, ◌∙◌, sym, ap, ℕ, true, false, length, Option, arith}
use Rattle.std.proofs.lemmas.Grind.{common_steps}
use Rattle.job_sched.specs.Ready.{is_ready, is_ready_job}
use Rattle.job_sched.specs.declared.job.Job.{Job}
use Rattle.job_sched.proofs.Circle.{found-first}
use Rattle.job_sched.proofs.Sleepers.{none-at}
use Rattle.job_sched.proofs.table.JobTable.next.Goals as goal

pub returns-then-computes : goal.returns-then-computes
returns-then-computes g c =
    let jobs = c.self.inside.jobs in
    let lines = c.args.lines.now in
    let requests = g.L.LockTable.requests c.args.locks.now in
    let n = c.first_behind-first.result in
    let fails : (m : ℕ) → c.self.inside.vacant_from ≤ m → is_ready jobs lines requests m ≡ false =
    λ m high. ap (λ (o : Option Job). is_ready_job lines requests m o) (c.self.invariant.vacant m high) in
    let low : n < length jobs = omega (arith, c.first_behind-first.ensures.most, c.self.invariant.slots) in
    let there = none-at jobs n c.index-self-first.result low in
    let passes : is_ready jobs lines requests n ≡ true =
    ap (λ (o : Option Job). is_ready_job lines requests n o) (sym there) ∙ c.computes.ensures lines requests n c.if-computes.true in
    let found = sym (found-first (is_ready jobs lines requests) n passes) ∙ c.first_behind-first.ensures.found (is_ready jobs lines requests) fails in
    grind (arith, common_steps, found, c.self.view_is)
