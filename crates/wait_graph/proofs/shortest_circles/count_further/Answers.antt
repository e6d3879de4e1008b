use Rattle.std.proofs.Common.{◌<◌, ◌∙◌, ℕ, length, arith}
use Rattle.std.proofs.Math.ListN.{length-set}
use Rattle.wait_graph.specs.Steps.{counted}
use Rattle.wait_graph.proofs.StepLemmas.{set_known}
use Rattle.wait_graph.proofs.shortest_circles.count_further.Goals as goal

pub loop-job-preserved : goal.loop-job-preserved
loop-job-preserved c =
    let want = λ (j : ℕ). counted c.args.pairs.now c.args.steps.now c.args.round j c.args.target in
    let size = c.loop-job.invariant.size in
    let within : c.loop-job.job < length c.loop-job.further = omega arith in
    record {
      size = length-set c.loop-job.further c.loop-job.job c.steps_from.result ∙ size;
      known = set_known c.loop-job.further c.loop-job.job c.steps_from.result want within c.loop-job.invariant.known c.steps_from.ensures;
    }
