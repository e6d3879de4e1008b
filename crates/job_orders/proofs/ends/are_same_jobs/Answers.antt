use Rattle.std.proofs.Common.{◌≡◌, ◌∙◌, length, sym, ap, arith}
use Rattle.std.proofs.lemmas.Bool.{false≢true}
use Rattle.job_orders.specs.Endings.{job_ending_of}
use Rattle.job_orders.proofs.Ended.{endings-none, same-at, same-many, taken-more}
use Rattle.job_orders.proofs.ends.are_same_jobs.Goals as goal

pub returns-then-jobs-count : goal.returns-then-jobs-count
returns-then-jobs-count c =
    (λ e. absurd (false≢true e), λ e. absurd (omega (arith, same-many c.args.machine.now c.args.count c.args.jobs.now e)))

pub loop-k-init : goal.loop-k-init
loop-k-init c = sym (endings-none c.args.machine.now)

pub returns-then-not-is_same_job : goal.returns-then-not-is_same_job
returns-then-not-is_same_job c =
    let long : length c.args.jobs.now ≡ c.args.count = omega arith in (
      λ e. absurd (false≢true e),
      λ e. sym c.if-not-is_same_job.true ∙ c.is_same_job.ensures.1
          (ap job_ending_of c.index-jobs-k.is
          ∙ same-at c.args.machine.now c.args.count c.loop-k.k c.args.jobs.now c.index-jobs-k.result (omega arith) long e),
    )

pub loop-k-preserved : goal.loop-k-preserved
loop-k-preserved c =
    taken-more c.args.machine.now c.loop-k.k c.args.jobs.now c.index-jobs-k.result (omega arith) c.loop-k.invariant
    (ap job_ending_of (sym c.index-jobs-k.is) ∙ c.is_same_job.ensures.0 c.if-not-is_same_job.false)
