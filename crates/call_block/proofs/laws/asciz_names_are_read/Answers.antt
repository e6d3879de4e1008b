use Rattle.call_block.proofs.AscizLemmas.{name_is_read}
use Rattle.call_block.proofs.laws.asciz_names_are_read.Goals as goal

pub returns : goal.returns
returns c = name_is_read
