use Rattle.uuo_calls.proofs.EmptySteps.{texts-whole}
use Rattle.uuo_calls.proofs.laws.texts_go_whole.Goals as goal

pub returns : goal.returns
returns c = texts-whole
