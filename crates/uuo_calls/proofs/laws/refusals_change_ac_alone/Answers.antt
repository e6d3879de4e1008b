use Rattle.uuo_calls.proofs.Refused.{refusals}
use Rattle.uuo_calls.proofs.laws.refusals_change_ac_alone.Goals as goal

pub returns : goal.returns
returns c = refusals
