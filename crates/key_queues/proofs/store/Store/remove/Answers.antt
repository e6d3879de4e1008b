use Rattle.std.proofs.Common.{None, ◌≡◌, ◌∙◌, ap, arith, lit<}
use Rattle.key_queues.specs.declared.entry.Entry.{Entry}
use Rattle.key_queues.specs.Stores.{without_slot, blocked_at, is_blocked, job_at}
use Rattle.key_queues.proofs.Keeps.{in_list, list_once, list_read, number_small, present, remove_keeps, seen_filled, seen_then, seen_within}
use Rattle.key_queues.proofs.Orders.{there_within}
use Rattle.key_queues.proofs.store.Store.remove.Goals as goal

pub take_out-requires : goal.take_out-requires
take_out-requires g c =
    let k = c.self.invariant in
    let filled = seen_filled _ _ _ _ _ _ k _ c.args.p c.self.view_is c.requires in
    (lit< tt, (there_within c.args.p c.self.inside.order (present _ _ _ _ _ _ k c.args.p filled), k.once))

pub take_out-requires-2 : goal.take_out-requires-2
take_out-requires-2 g c =
    let k = c.self.invariant in
    let filled = seen_filled _ _ _ _ _ _ k _ c.args.p c.self.view_is c.requires in
    let job : c.get-entry.result.now.request.job ≡ job_at c.self.inside.entry_slab.contents c.args.p = ap (λ (f : Entry). f.request.job) c.get-entry.ensures in
    rw (list_read _ _ _ _ _ _ k 0 c.get-entry.result.now.request.job c.index_mut.result.now (rw job (k.jobs c.args.p)) c.index_mut.ensures.value, job)
    (lit< tt, (there_within c.args.p _ (in_list _ _ _ _ _ _ k c.args.p filled), list_once _ _ _ _ _ _ k c.args.p filled))

pub invariant_of-self : goal.invariant_of-self
invariant_of-self g c =
    let k = c.self.invariant in
    let filled = seen_filled _ _ _ _ _ _ k _ c.args.p c.self.view_is c.requires in
    let job : c.get-entry.result.now.request.job ≡ job_at c.self.inside.entry_slab.contents c.args.p = ap (λ (f : Entry). f.request.job) c.get-entry.ensures in
    let was : c.is_blocked-was.result ≡ blocked_at c.self.inside.entry_slab.contents c.args.p =
    c.is_blocked-was.ensures ∙ ap is_blocked c.get-entry.ensures in
    let list = list_read _ _ _ _ _ _ k 0 c.get-entry.result.now.request.job c.index_mut.result.now (rw job (k.jobs c.args.p)) c.index_mut.ensures.value in
    rw (c.remove.ensures.contents, c.take_out.ensures, c.take_out-2.ensures, list, c.recount.ensures, job, was)
    (remove_keeps _ _ _ _ _ _ k c.args.p filled c.remove.new.self.len c.remove.ensures.len)

pub returns-clause-value : goal.returns-clause-value
returns-clause-value g c =
    seen_then _ _ c.args.self.now c.args.p c.self.view_is _ _ None (λ l. without_slot l c.args.p) c.remove.ensures.contents c.take_out.ensures

pub returns-clause-within : goal.returns-clause-within
returns-clause-within g c = seen_within _ _ _ _ _ _ c.self.invariant _ c.args.p c.self.view_is c.requires

pub recount-requires-clause-room : goal.recount-requires-clause-room
recount-requires-clause-room g c = grind (arith, number_small)
