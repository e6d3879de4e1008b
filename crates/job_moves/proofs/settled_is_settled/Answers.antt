use Rattle.job_moves.proofs.Alone.{settled_is_settled}
use Rattle.job_moves.proofs.settled_is_settled.Goals as goal

pub returns : goal.returns
returns c = settled_is_settled
