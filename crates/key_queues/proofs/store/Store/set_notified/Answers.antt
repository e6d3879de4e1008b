use Rattle.std.proofs.Common.{refl}
use Rattle.key_queues.specs.declared.entry.Entry.{Entry}
use Rattle.key_queues.specs.Entries.{with_notified}
use Rattle.key_queues.proofs.Keeps.{change_kept, seen_change, seen_within}
use Rattle.key_queues.proofs.store.Store.set_notified.Goals as goal

pub invariant_of-self : goal.invariant_of-self
invariant_of-self g c =
    change_kept _ _ _ _ _ _ c.self.invariant _ c.args.p c.self.view_is c.requires _ _ c.get_mut.ensures.value refl refl

pub returns-clause-value : goal.returns-clause-value
returns-clause-value g c =
    seen_change _ _ _ c.args.p c.self.view_is (λ (f : Entry). with_notified f) _ _ c.get_mut.ensures.value refl

pub returns-clause-within : goal.returns-clause-within
returns-clause-within g c = seen_within _ _ _ _ _ _ c.self.invariant _ c.args.p c.self.view_is c.requires
