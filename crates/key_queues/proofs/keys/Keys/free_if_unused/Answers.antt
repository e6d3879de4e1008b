use Rattle.std.proofs.Common.{◌<◌, sym, subst, length}
use Rattle.key_queues.proofs.Finding.{keyed_free}
use Rattle.key_queues.proofs.keys.Keys.free_if_unused.Goals as goal

pub invariant_of-self : goal.invariant_of-self
invariant_of-self g c =
    keyed_free _ _ _ _ c.args.n _ _ _ c.self.invariant (subst (λ ls. c.args.n < length ls) (sym c.self.view_is) c.requires)
    c.index-lock.ensures (sym c.if-is_free.ensures) c.index_mut.ensures.value c.take_out.ensures

pub invariant_of-self-else-len-capacity : goal.invariant_of-self-else-len-capacity
invariant_of-self-else-len-capacity g c =
    keyed_free _ _ _ _ c.args.n _ _ _ c.self.invariant (subst (λ ls. c.args.n < length ls) (sym c.self.view_is) c.requires)
    c.index-lock.ensures (sym c.if-is_free.ensures) c.index_mut.ensures.value c.take_out.ensures
