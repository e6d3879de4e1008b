use Rattle.machine.specs.declared.event.Event.TheVariants.{Tick}
use Rattle.progress_laws.proofs.Kept.{sound_is_kept}
use Rattle.monitor.proofs.system.System.tick_told.Goals as goal

pub invariant_of-self : goal.invariant_of-self
invariant_of-self g c = rw c.tick_told.ensures.state (sound_is_kept _ Tick c.self.invariant)
