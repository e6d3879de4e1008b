use Rattle.ddt_timeline.proofs.GoingBack.{back_and_again, back_and_forward, one_place, same_machine}
use Rattle.ddt_timeline.proofs.laws.going_back_loses_nothing.Goals as goal

pub returns-clause-forward : goal.returns-clause-forward
returns-clause-forward c = back_and_forward

pub returns-clause-again : goal.returns-clause-again
returns-clause-again c = back_and_again

pub returns-clause-machine : goal.returns-clause-machine
returns-clause-machine c = same_machine

pub returns-clause-place : goal.returns-clause-place
returns-clause-place c = one_place
