use Rattle.call_block.proofs.BitLemmas.{bits_masked}
use Rattle.call_block.proofs.bits.bits.Goals as goal

pub returns-clause-value : goal.returns-clause-value
returns-clause-value c = rw (← c.number.ensures.value) (bits_masked c.args.first c.args.last c.number.result c.requires.within)
