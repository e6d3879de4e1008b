use Rattle.uuo_calls.proofs.Refused.{mstime-answers}
use Rattle.uuo_calls.proofs.laws.mstime_answers_milliseconds.Goals as goal

pub returns : goal.returns
returns c = mstime-answers
