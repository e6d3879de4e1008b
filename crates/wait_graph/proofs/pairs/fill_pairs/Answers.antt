use Rattle.std.proofs.Common.{◌+◌, ◌*◌, ◌≤◌, ◌∙◌, false, sym, ap, length, slice_index_or, arith}
use Rattle.lock_queue.specs.Jobs.{waits_for}
use Rattle.wait_graph.specs.Pairs.{pair_in}
use Rattle.wait_graph.proofs.PairLemmas.{marked, no_waits, row_known, table-pairs}
use Rattle.wait_graph.specs.declared.pairs.TheConstants.{NUMBERS}
use Rattle.wait_graph.proofs.pairs.fill_pairs.Goals as goal
use Rattle.wait_graph.proofs.pairs.fill_pairs.Goals.{then-waiting-job, else-waiting-job}

pub loop-job-init : goal.loop-job-init
loop-job-init g c = record {
  size = omega arith;
  known = λ i lt. absurd (omega (arith, lt));
  empty = λ i le. c.requires.empty i;
}

pub loop-job-preserved : goal.loop-job-preserved
loop-job-preserved g c =
    let requests = g.L.LockTable.requests c.args.table.now in
    let w = waits_for requests in
    let job = c.loop-job.job in
    let old = c.loop-job.pairs in
    elim c.if-waiting-job.branch [
      | then-waiting-job v ↦ record {
        size = ap length v.pairs-is ∙ v.fill_row.ensures.size;
        known = row_known w old c.if-waiting-job.pairs job c.loop-job.invariant.known
            (λ i lt. ap (λ l. slice_index_or l i false) v.pairs-is ∙ v.fill_row.ensures.before i lt)
            (λ k lt. ap (λ l. slice_index_or l (NUMBERS * job + k) false) v.pairs-is ∙ v.fill_row.ensures.own k lt);
        empty = λ i le.
            ap (λ l. slice_index_or l i false) v.pairs-is ∙ v.fill_row.ensures.behind i (omega (arith, le))
            ∙ c.loop-job.invariant.empty i (omega (arith, le));
      }
      | else-waiting-job v ↦ record {
        size = ap length v.pairs-is ∙ c.loop-job.invariant.size;
        known = row_known w old c.if-waiting-job.pairs job c.loop-job.invariant.known
            (λ i lt. ap (λ l. slice_index_or l i false) v.pairs-is)
            (λ k lt. ap (λ l. slice_index_or l (NUMBERS * job + k) false) v.pairs-is
            ∙ c.loop-job.invariant.empty (NUMBERS * job + k) (omega arith)
            ∙ sym (no_waits requests job k (sym (c.requires.waiting job (omega arith)) ∙ v.if-waiting-job.false)));
        empty = λ i le. ap (λ l. slice_index_or l i false) v.pairs-is ∙ c.loop-job.invariant.empty i (omega (arith, le));
      }
    ]

pub returns-clause-marked : goal.returns-clause-marked
returns-clause-marked g c =
    let requests = g.L.LockTable.requests c.args.table.now in
    let pairs = c.loop-job.pairs in
    let end : NUMBERS ≤ c.loop-job.job = omega arith in
    marked requests c.args.waiting.now (pair_in pairs) c.requires.waiting
    (table-pairs pairs (waits_for requests) (λ i lt. c.loop-job.invariant.known i (omega (arith, lt, end))))
