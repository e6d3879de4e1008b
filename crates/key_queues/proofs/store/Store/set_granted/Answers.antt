use Rattle.std.proofs.Common.{◌≡◌, ◌∙◌, ap, refl}
use Rattle.key_queues.specs.declared.entry.Entry.{Entry}
use Rattle.key_queues.specs.Entries.{with_granted}
use Rattle.key_queues.specs.Stores.{blocked_at, is_blocked}
use Rattle.key_queues.proofs.Keeps.{grant_keeps, seen_change, seen_filled, seen_within}
use Rattle.key_queues.proofs.store.Store.set_granted.Goals as goal

pub invariant_of-self : goal.invariant_of-self
invariant_of-self g c =
    let k = c.self.invariant in
    let filled = seen_filled _ _ _ _ _ _ k _ c.args.p c.self.view_is c.requires in
    let at = c.get_mut-entry.ensures.value in
    let was : c.is_blocked-was.result ≡ blocked_at c.self.inside.entry_slab.contents c.args.p = c.is_blocked-was.ensures ∙ ap is_blocked at in
    rw (c.recount.ensures, c.is_blocked-is.ensures, was)
    (grant_keeps _ _ _ _ _ _ k c.args.p (with_granted c.get_mut-entry.result.now c.args.granted) filled (ap (λ (f : Entry). f.request.job) at))

pub returns-clause-value : goal.returns-clause-value
returns-clause-value g c =
    seen_change _ _ _ c.args.p c.self.view_is (λ (f : Entry). with_granted f c.args.granted) _ _ c.get_mut-entry.ensures.value refl

pub returns-clause-within : goal.returns-clause-within
returns-clause-within g c = seen_within _ _ _ _ _ _ c.self.invariant _ c.args.p c.self.view_is c.requires
