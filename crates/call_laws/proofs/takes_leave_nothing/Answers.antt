use Rattle.call_laws.proofs.Takes.{takes_leave_nothing}
use Rattle.call_laws.proofs.takes_leave_nothing.Goals as goal

pub returns : goal.returns
returns c = takes_leave_nothing
