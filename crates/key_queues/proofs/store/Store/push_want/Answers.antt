use Rattle.std.proofs.Common.{lit<, refl, arith, rules}
use Rattle.key_queues.specs.declared.entry.Entry.{Entry}
use Rattle.key_queues.specs.Entries.{with_more}
use Rattle.key_queues.proofs.Keeps.{change_kept, seen_change, seen_entry, seen_filled, seen_within}
use Rattle.key_queues.proofs.store.Store.push_want.Goals as goal

pub invariant_of-self : goal.invariant_of-self
invariant_of-self g c =
    change_kept _ _ _ _ _ _ c.self.invariant _ c.args.p c.self.view_is c.requires.present _ _ c.get_mut-entry.ensures.value refl refl

pub returns-clause-value : goal.returns-clause-value
returns-clause-value g c =
    seen_change _ _ _ c.args.p c.self.view_is (λ (f : Entry). with_more f c.args.w.now c.args.n) _ _ c.get_mut-entry.ensures.value (search rules)

pub get_mut-entry-requires : goal.get_mut-entry-requires
get_mut-entry-requires g c = (lit< tt, seen_filled _ _ _ _ _ _ c.self.invariant _ c.args.p c.self.view_is c.requires.present)

pub returns-clause-within : goal.returns-clause-within
returns-clause-within g c = seen_within _ _ _ _ _ _ c.self.invariant _ c.args.p c.self.view_is c.requires.present

pub push-requires : goal.push-requires
push-requires g c = grind (arith, seen_entry _ _ _ c.args.p c.self.view_is)

pub push-requires-2 : goal.push-requires-2
push-requires-2 g c = grind (arith, seen_entry _ _ _ c.args.p c.self.view_is)
