use Rattle.std.proofs.Common.{refl}
use Rattle.call_block.specs.Laws.{nth_want}
use Rattle.call_block.proofs.LockLemmas.{in_order}
use Rattle.call_block.proofs.laws.locks_are_read_in_order.Goals as goal

pub returns : goal.returns
returns c = λ ac core job block_use a n. in_order ac core job block_use a n (nth_want ac core job block_use a) (λ i. refl)
