use Rattle.machine.specs.declared.event.Event.TheVariants.{Step, Tick, Typed}
use Rattle.progress_laws.proofs.Kept.{sound_is_kept}
use Rattle.monitor.proofs.system.System.happen.Goals as goal

pub invariant_of-self : goal.invariant_of-self
invariant_of-self g c = rw c.step.ensures.state (sound_is_kept _ Step c.self.invariant)

pub invariant_of-self-in-Tick : goal.invariant_of-self-in-Tick
invariant_of-self-in-Tick g c = rw c.tick.ensures (sound_is_kept _ Tick c.self.invariant)

pub invariant_of-self-in-Typed : goal.invariant_of-self-in-Typed
invariant_of-self-in-Typed g c = rw c.typed.ensures.state (sound_is_kept _ (Typed c.in-Typed.line c.in-Typed.character) c.self.invariant)

pub invariant_of-self-in_default : goal.invariant_of-self-in_default
invariant_of-self-in_default g c = rw c.event.ensures.state (sound_is_kept _ c.args.event.now c.self.invariant)

pub returns-after-step-clause-sound : goal.returns-after-step-clause-sound
returns-after-step-clause-sound g c = rw (← c.self.view_is) (c.self.invariant, rw c.step.ensures.state (sound_is_kept _ Step c.self.invariant))

pub returns-in-Tick-clause-sound : goal.returns-in-Tick-clause-sound
returns-in-Tick-clause-sound g c = rw (← c.self.view_is) (c.self.invariant, rw c.tick.ensures (sound_is_kept _ Tick c.self.invariant))

pub returns-in-Typed-clause-sound : goal.returns-in-Typed-clause-sound
returns-in-Typed-clause-sound g c =
    rw (← c.self.view_is)
    (c.self.invariant, rw c.typed.ensures.state (sound_is_kept _ (Typed c.in-Typed.line c.in-Typed.character) c.self.invariant))

pub returns-in_default-clause-sound : goal.returns-in_default-clause-sound
returns-in_default-clause-sound g c = rw (← c.self.view_is) (c.self.invariant, rw c.event.ensures.state (sound_is_kept _ c.args.event.now c.self.invariant))
