use Rattle.job_moves.proofs.Reaching.{ends_are_reached, requests_are_reached, runs_reach}
use Rattle.job_moves.proofs.runs_are_reached.Goals as goal

pub returns-clause-requests : goal.returns-clause-requests
returns-clause-requests c = requests_are_reached

pub returns-clause-ends : goal.returns-clause-ends
returns-clause-ends c = ends_are_reached

pub returns-clause-runs : goal.returns-clause-runs
returns-clause-runs c = runs_reach
