use Rattle.std.proofs.Common.{◌<◌, ◌/◌, ◌%◌, ◌∙◌, ℕ, length, arith}
use Rattle.std.proofs.Math.ListN.{length-set}
use Rattle.wait_graph.specs.Pairs.{pair_in}
use Rattle.wait_graph.proofs.PairLemmas.{set-known}
use Rattle.wait_graph.specs.Graphs.{closes_circle}
use Rattle.wait_graph.specs.declared.pairs.TheConstants.{NUMBERS}
use Rattle.wait_graph.proofs.circles.circle_table.Goals as goal

pub loop-i-preserved : goal.loop-i-preserved
loop-i-preserved c =
    let want = λ (i : ℕ). closes_circle (pair_in c.args.pairs.now) (i / NUMBERS) (i % NUMBERS) in
    let size = c.loop-i.invariant.size in
    let within : c.loop-i.i < length c.loop-i.circles = omega arith in
    record {
      size = length-set c.loop-i.circles c.loop-i.i c.closes_circle.result ∙ size;
      known = set-known c.loop-i.circles c.loop-i.i c.closes_circle.result want within c.loop-i.invariant.known c.closes_circle.ensures;
    }
