use Rattle.script_laws.proofs.TakingLemmas.{take_takes_all}
use Rattle.script_laws.proofs.formats.takes_take_all.Goals as goal

pub returns : goal.returns
returns c = take_takes_all
