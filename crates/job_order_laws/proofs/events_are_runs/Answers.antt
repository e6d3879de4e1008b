use Rattle.job_order_laws.proofs.Eventing.{ends_are_like, events_are_runs, machines_are_like}
use Rattle.job_order_laws.proofs.events_are_runs.Goals as goal

pub returns-clause-start : goal.returns-clause-start
returns-clause-start c = machines_are_like

pub returns-clause-runs : goal.returns-clause-runs
returns-clause-runs c = events_are_runs

pub returns-clause-ends : goal.returns-clause-ends
returns-clause-ends c = ends_are_like
