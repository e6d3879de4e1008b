use Rattle.std.proofs.Common.{◌≡◌, ◌<◌, ◌∙◌, sym, ap, List, length, Option, Some, None, arith}
use Rattle.job_sched.specs.Jobs.{is_sleep}
use Rattle.job_sched.specs.Tables.{is_sleeper, job_at}
use Rattle.job_sched.specs.declared.job.Job.{Job}
use Rattle.job_sched.proofs.Sleepers.{IsTable-changed, awake-at, none-at}
use Rattle.monitor.proofs.parts.Parts.execute.Goals as goal

none-some : (j : Job) → None ≡ Some j → ⊥
none-some j e = cc

-- other registers let nobody sleep
pub invariant_of-world-inside : goal.invariant_of-world-inside
invariant_of-world-inside g c =
    let table = c.world-inside.inside.0.0 in
    let jobs : List (Option Job) = table.jobs in
    let low : c.args.n < length jobs = omega (arith, c.world-inside.invariant.slots, c.if-n-gt-JOBS.false) in
    let there : job_at jobs c.args.n ≡ Some c.in-Some.job = sym (none-at jobs c.args.n _ low) ∙ c.in-Some.is in
    let same = ap (λ (j : Job). is_sleep j.wait) c.execute_in.ensures.job in
    IsTable-changed jobs c.args.n (Some c.execute_in.new.job) table.sleepers table.sleepers table.vacant_from c.world-inside.invariant (λ e. e)
    (λ e. same ∙ ap is_sleeper (sym there) ∙ awake-at jobs c.args.n None low (c.world-inside.invariant.awake e))
    (λ e. absurd (none-some c.in-Some.job (sym e ∙ there)))
