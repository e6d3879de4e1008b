use Rattle.uuo_calls.proofs.Refused.{core-answers}
use Rattle.uuo_calls.proofs.laws.core_answers_free_blocks.Goals as goal

pub returns : goal.returns
returns c = core-answers
