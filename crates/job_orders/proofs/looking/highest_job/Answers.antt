use Rattle.std.proofs.Common.{◌≡◌, ◌+◌, ◌∙◌, is_some, None, true, false, sym, ap, arith}
use Rattle.std.proofs.lemmas.List.{get_or_default}
use Rattle.job_sched.specs.Tables.{job_at}
use Rattle.job_orders.proofs.Counting.{highest-more, highest-none}
use Rattle.job_orders.proofs.looking.highest_job.Goals as goal
use Rattle.job_orders.proofs.looking.highest_job.Goals.{then-is_some, else-is_some}

pub loop-k-init : goal.loop-k-init
loop-k-init c = (sym (highest-none c.args.jobs.now), omega arith)

pub loop-k-preserved : goal.loop-k-preserved
loop-k-preserved c =
    let at : c.is_some.result ≡ is_some (job_at c.args.jobs.now (c.loop-k.k + 1)) =
    c.is_some.ensures ∙ ap is_some (get_or_default c.args.jobs.now (c.loop-k.k + 1) c.index-jobs-k.result None (omega arith)) in
    elim c.if-is_some.branch [
      | then-is_some w ↦ (
        w.highest-is ∙ sym (highest-more c.args.jobs.now c.loop-k.k true (sym at ∙ w.if-is_some.true)),
        (let is = w.highest-is in omega (arith, is)),
      )
      | else-is_some w ↦ (
        w.highest-is ∙ c.loop-k.invariant.0 ∙ sym (highest-more c.args.jobs.now c.loop-k.k false (sym at ∙ w.if-is_some.false)),
        (let is = w.highest-is in omega (arith, is)),
      )
    ]
