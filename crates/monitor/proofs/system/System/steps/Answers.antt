use Rattle.std.proofs.Common.{true, false}
use Rattle.machine.specs.Rounds.{rounds}
use Rattle.progress_laws.proofs.Kept.{sound_after}
use Rattle.monitor.proofs.system.System.steps.Goals as goal

pub invariant_of-self : goal.invariant_of-self
invariant_of-self g c = rw c.run_rounds.ensures.state (sound_after (rounds c.args.most true) _ c.self.invariant)

pub invariant_of-self-else-ticking : goal.invariant_of-self-else-ticking
invariant_of-self-else-ticking g c = rw c.run_rounds-else-ticking.ensures.state (sound_after (rounds c.args.most false) _ c.self.invariant)
