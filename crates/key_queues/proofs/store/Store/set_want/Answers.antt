use Rattle.std.proofs.Common.{ap, refl, arith, List}
use Rattle.lock_queue.specs.declared.want.Want.{Want}
use Rattle.key_queues.specs.declared.entry.Entry.{Entry}
use Rattle.key_queues.specs.Entries.{with_want, with_wants}
use Rattle.key_queues.proofs.Keeps.{change_kept, seen_change, seen_entry, seen_within, written_in}
use Rattle.key_queues.proofs.store.Store.set_want.Goals as goal

pub invariant_of-self : goal.invariant_of-self
invariant_of-self g c =
    change_kept _ _ _ _ _ _ c.self.invariant _ c.args.p c.self.view_is c.requires.present _ _ c.get_mut.ensures.value refl refl

pub returns-clause-value : goal.returns-clause-value
returns-clause-value g c =
    let was = c.get_mut.result.now in
    seen_change _ _ _ c.args.p c.self.view_is (λ (f : Entry). with_want f c.args.k c.args.w.now) _ _ c.get_mut.ensures.value
    (ap (λ (ws : List Want). with_wants was ws was.queues.items)
    (written_in was.request.wants.items c.deref_mut.result.now c.args.k c.args.w.now c.deref_mut.ensures.value))

pub bounds-deref_mut-k : goal.bounds-deref_mut-k
bounds-deref_mut-k g c = grind (arith, seen_entry _ _ _ c.args.p c.self.view_is)

pub returns-clause-within : goal.returns-clause-within
returns-clause-within g c = seen_within _ _ _ _ _ _ c.self.invariant _ c.args.p c.self.view_is c.requires.present
