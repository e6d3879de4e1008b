use Rattle.progress_laws.proofs.Wakes.{nobody_waits_past_a_limit}
use Rattle.progress_laws.proofs.nobody_waits_past_a_limit.Goals as goal

pub returns : goal.returns
returns c = nobody_waits_past_a_limit
