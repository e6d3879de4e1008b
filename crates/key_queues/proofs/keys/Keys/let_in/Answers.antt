use Rattle.key_queues.specs.Locks.{lock_at}
use Rattle.key_queues.proofs.Finding.{keyed_queue, in_use_below}
use Rattle.key_queues.proofs.keys.Keys.let_in.Goals as goal

pub invariant_of-self : goal.invariant_of-self
invariant_of-self g c =
    keyed_queue _ _ _ _ c.args.n _ c.let_in.new.self c.self.invariant (rw c.self.view_is (in_use_below (lock_at c.args.self.now c.args.n).queue _ c.requires.next)) c.index_mut.ensures.value
