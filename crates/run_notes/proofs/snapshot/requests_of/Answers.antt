use Rattle.std.proofs.Common.{arith}
use Rattle.std.proofs.lemmas.Grind.{common_steps}
use Rattle.run_notes.proofs.StepLemmas.{count_by_further}
use Rattle.run_notes.specs.Steps.{is_own, is_told}
use Rattle.run_notes.proofs.snapshot.requests_of.Goals as goal

pub loop-i-preserved : goal.loop-i-preserved
loop-i-preserved c =
    let requests = c.args.machine.now.world.requests in
    let own = count_by_further (is_own c.args.number) requests c.loop-i.i c.request-request.result.now c.request-request.ensures in
    let told = count_by_further (is_told c.args.number) requests c.loop-i.i c.request-request.result.now c.request-request.ensures in
    record {
      all = grind (arith, common_steps);
      notified = grind (arith, common_steps);
      most = grind (arith, common_steps);
      told = grind (arith, common_steps);
    }
