use Rattle.job_moves.proofs.Plain.{ends_are_found, lasts_are_ends, orders_are_runs, requests_are_found, runs_are_plain}
use Rattle.job_moves.proofs.orders_stand_for_runs.Goals as goal

pub returns-clause-plain : goal.returns-clause-plain
returns-clause-plain c = runs_are_plain

pub returns-clause-requests : goal.returns-clause-requests
returns-clause-requests c = requests_are_found

pub returns-clause-ends : goal.returns-clause-ends
returns-clause-ends c = ends_are_found

pub returns-clause-runs : goal.returns-clause-runs
returns-clause-runs c = orders_are_runs

pub returns-clause-lasts : goal.returns-clause-lasts
returns-clause-lasts c = lasts_are_ends
