use Rattle.std.proofs.Common.{◌-◌, true}
use Rattle.machine.specs.Rounds.{rounds}
use Rattle.machine.specs.declared.event.Event.TheVariants.{Step}
use Rattle.progress_laws.proofs.Kept.{sound_after, sound_is_kept}
use Rattle.monitor.proofs.system.System.rounds_told.Goals as goal

pub invariant_of-self : goal.invariant_of-self
invariant_of-self g c =
    rw c.rounds_told.ensures.state
    (sound_is_kept _ Step (sound_after (rounds (c.rounds_told.result.0 - 1) true) _ c.self.invariant))
