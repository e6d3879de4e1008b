use Rattle.job_moves.proofs.Resting.{begun_is_awake}
use Rattle.job_moves.proofs.begun_is_awake.Goals as goal

pub returns : goal.returns
returns c = begun_is_awake
