use Rattle.std.proofs.Common.{◌<◌, ◌&&◌, ◌||◌, ◌∙◌, ℕ, false, length, slice_index_or, arith}
use Rattle.std.proofs.Math.ListN.{length-set}
use Rattle.std.specs.List.{list_any}
use Rattle.lock_queue.specs.Waits.{jobs}
use Rattle.wait_graph.specs.Pairs.{pair_in}
use Rattle.wait_graph.proofs.PairLemmas.{set-known}
use Rattle.wait_graph.proofs.circles.lead_further.Goals as goal

pub loop-job-preserved : goal.loop-job-preserved
loop-job-preserved c =
    let want =
    λ (j : ℕ). pair_in c.args.pairs.now j c.args.target
    || list_any (λ m. pair_in c.args.pairs.now j m && slice_index_or c.args.reached.now m false) jobs in
    let size = c.loop-job.invariant.size in
    let within : c.loop-job.job < length c.loop-job.further = omega arith in
    record {
      size = length-set c.loop-job.further c.loop-job.job c.leads_on.result ∙ size;
      known = set-known c.loop-job.further c.loop-job.job c.leads_on.result want within c.loop-job.invariant.known c.leads_on.ensures;
    }
