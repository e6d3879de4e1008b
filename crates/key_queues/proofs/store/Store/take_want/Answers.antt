use Rattle.std.proofs.Common.{lit<, refl, arith, rules}
use Rattle.key_queues.specs.declared.entry.Entry.{Entry}
use Rattle.key_queues.specs.Entries.{without_want}
use Rattle.key_queues.proofs.Keeps.{change_kept, seen_change, seen_entry, seen_filled, seen_within}
use Rattle.key_queues.proofs.store.Store.take_want.Goals as goal

pub invariant_of-self : goal.invariant_of-self
invariant_of-self g c =
    change_kept _ _ _ _ _ _ c.self.invariant _ c.args.p c.self.view_is c.requires.present _ _ c.get_mut-entry.ensures.value refl refl

pub returns-clause-value : goal.returns-clause-value
returns-clause-value g c =
    seen_change _ _ _ c.args.p c.self.view_is (λ (f : Entry). without_want f c.args.k) _ _ c.get_mut-entry.ensures.value (search rules)

pub returns-clause-within : goal.returns-clause-within
returns-clause-within g c = seen_within _ _ _ _ _ _ c.self.invariant _ c.args.p c.self.view_is c.requires.present

pub get_mut-entry-requires : goal.get_mut-entry-requires
get_mut-entry-requires g c = (lit< tt, seen_filled _ _ _ _ _ _ c.self.invariant _ c.args.p c.self.view_is c.requires.present)

pub take_out-requires : goal.take_out-requires
take_out-requires g c = grind (arith, seen_entry _ _ _ c.args.p c.self.view_is)

pub take_out-requires-2 : goal.take_out-requires-2
take_out-requires-2 g c = grind (arith, seen_entry _ _ _ c.args.p c.self.view_is)
