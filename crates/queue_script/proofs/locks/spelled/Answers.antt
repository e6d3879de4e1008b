use Rattle.queue_script.proofs.LockLemmas.{names-utf8}
use Rattle.queue_script.proofs.locks.spelled.Goals as goal

pub from_utf8_unchecked-text-requires : goal.from_utf8_unchecked-text-requires
from_utf8_unchecked-text-requires c = names-utf8 _ c.requires.named
