use Rattle.std.proofs.Common.{arith}
use Rattle.ddt_timeline.proofs.RunLemmas.{steps_next}
use Rattle.ddt_timeline.proofs.timeline.position_of.Goals as goal

pub loop-i-preserved : goal.loop-i-preserved
loop-i-preserved c =
    let more = steps_next c.args.entries.now c.loop-i.i c.index-entries-i.result c.loop-i-test.true c.index-entries-i.is in
    omega (arith, more, c.loop-i.invariant)
