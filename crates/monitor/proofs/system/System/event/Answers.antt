use Rattle.progress_laws.proofs.Promises.{event_keeps}
use Rattle.monitor.proofs.system.System.event.Goals as goal

pub returns-clause-keeps : goal.returns-clause-keeps
returns-clause-keeps g c = rw c.happen.ensures.state (event_keeps _ c.args.event.now c.happen.ensures.sound.0)
