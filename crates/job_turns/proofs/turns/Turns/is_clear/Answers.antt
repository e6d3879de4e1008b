use Rattle.job_turns.proofs.GoingOn.{next-clear, none-clear}
use Rattle.job_turns.proofs.turns.Turns.is_clear.Goals as goal

pub loop-k-init : goal.loop-k-init
loop-k-init g c = none-clear c.args.self.now

pub loop-k-preserved : goal.loop-k-preserved
loop-k-preserved g c = next-clear c.loop-k.k c.args.self.now c.loop-k.clear c.is_clear_with-clear.result c.loop-k.invariant c.is_clear_with-clear.ensures
