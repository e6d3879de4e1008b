use Rattle.progress_laws.proofs.Promises.{event_keeps, run_keeps}
use Rattle.progress_laws.proofs.promises_are_kept.Goals as goal

pub returns-clause-events : goal.returns-clause-events
returns-clause-events c = event_keeps

pub returns-clause-runs : goal.returns-clause-runs
returns-clause-runs c = run_keeps
