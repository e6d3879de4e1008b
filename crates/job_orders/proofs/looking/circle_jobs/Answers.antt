use Rattle.std.proofs.Common.{◌<◌, ◌+◌, ◌∙◌, ◌++◌, ◌∷◌, [], true, false, sym, ap, arith}
use Rattle.wait_graph.proofs.PairLemmas.{circle_in as circle-same}
use Rattle.wait_graph.specs.declared.pairs.TheConstants.{NUMBERS}
use Rattle.job_orders.proofs.Counting.{circle-more, circle-none}
use Rattle.job_orders.proofs.looking.circle_jobs.Goals as goal
use Rattle.job_orders.proofs.looking.circle_jobs.Goals.{then-is_in_circle+in_ok-push, else-is_in_circle}

pub loop-k-init : goal.loop-k-init
loop-k-init g c = c.new-jobs.ensures.items ∙ sym (circle-none (g.L.LockTable.requests c.args.locks.now))

pub loop-k-preserved : goal.loop-k-preserved
loop-k-preserved g c =
    let rs = g.L.LockTable.requests c.args.locks.now in
    let within : c.loop-k.k + 1 < NUMBERS = omega arith in
    let same = circle-same c.pair_table-pairs.result rs (c.loop-k.k + 1) c.pair_table-pairs.ensures.pairs within in
    elim c.if-is_in_circle.branch [
      | then-is_in_circle+in_ok-push w ↦
          ap (λ v. v.items) w.jobs-is ∙ w.in_ok-push.ensures.items
          ∙ ap (λ l. l ++ (c.loop-k.k + 1) ∷ []) c.loop-k.invariant
          ∙ sym (circle-more c.loop-k.k rs true (sym same ∙ sym c.is_in_circle.ensures ∙ w.if-is_in_circle.true))
      | else-is_in_circle w ↦
          ap (λ v. v.items) w.jobs-is ∙ c.loop-k.invariant
          ∙ sym (circle-more c.loop-k.k rs false (sym same ∙ sym c.is_in_circle.ensures ∙ w.if-is_in_circle.false))
    ]
