use Rattle.uuo_calls.proofs.Pools.{askable}
use Rattle.uuo_calls.proofs.blocks.block_kept.Goals as goal

pub returns-clause-askable : goal.returns-clause-askable
returns-clause-askable g c = askable c.fill_block.result c.fill_block.new.wants c.fill_block.ensures.least c.fill_block.ensures.unshared
