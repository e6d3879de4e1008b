use Rattle.uuo_calls.proofs.Frames.{others-spared}
use Rattle.uuo_calls.proofs.laws.others_are_spared.Goals as goal

pub returns : goal.returns
returns c = others-spared
