use Rattle.uuo_calls.proofs.EmptySteps.{empty-steps}
use Rattle.uuo_calls.proofs.laws.empty_steps_wait.Goals as goal

pub returns : goal.returns
returns c = empty-steps
