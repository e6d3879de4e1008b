use Rattle.std.proofs.Common.{true}
use Rattle.machine.specs.Rounds.{rounds}
use Rattle.progress_laws.proofs.Kept.{sound_after}
use Rattle.monitor.proofs.system.System.rounds_to.Goals as goal

pub invariant_of-self : goal.invariant_of-self
invariant_of-self g c = rw c.rounds_to.ensures.state (sound_after (rounds c.rounds_to.result.made true) _ c.self.invariant)
