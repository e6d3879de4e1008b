use Rattle.std.proofs.Common.{◌<◌, ◌/◌, ◌%◌, ◌∙◌, ℕ, length, arith}
use Rattle.std.proofs.Math.ListN.{length-set}
use Rattle.lock_queue.specs.Waits.{waits_hard_for}
use Rattle.wait_graph.proofs.PairLemmas.{set-known}
use Rattle.wait_graph.specs.declared.pairs.TheConstants.{NUMBERS}
use Rattle.wait_graph.proofs.pairs.hard_table.Goals as goal

pub loop-i-preserved : goal.loop-i-preserved
loop-i-preserved c =
    let want = λ (i : ℕ). waits_hard_for c.args.requests.now (i / NUMBERS) (i % NUMBERS) in
    let size = c.loop-i.invariant.size in
    let within : c.loop-i.i < length c.loop-i.pairs = omega arith in
    record {
      size = length-set c.loop-i.pairs c.loop-i.i c.waits_hard_for.result ∙ size;
      known = set-known c.loop-i.pairs c.loop-i.i c.waits_hard_for.result want within c.loop-i.invariant.known c.waits_hard_for.ensures;
    }
