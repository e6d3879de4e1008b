use Rattle.progress_laws.proofs.Promises.{run_keeps}
use Rattle.monitor.proofs.system.System.run.Goals as goal

pub returns-clause-keeps : goal.returns-clause-keeps
returns-clause-keeps g c = rw (← c.self.view_is) (run_keeps _ c.args.events.now c.self.invariant)
