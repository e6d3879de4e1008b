use Rattle.job_moves.proofs.Alone.{moves_are_noticed, moves_keep}
use Rattle.job_moves.proofs.moves_are_noticed.Goals as goal

pub returns-clause-noticed : goal.returns-clause-noticed
returns-clause-noticed c = moves_are_noticed

pub returns-clause-keep : goal.returns-clause-keep
returns-clause-keep c = moves_keep
