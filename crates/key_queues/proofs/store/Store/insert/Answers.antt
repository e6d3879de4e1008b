use Rattle.std.proofs.Common.{Some, is_some, [], ◌∷◌, ◌++◌, ◌<◌, ◌∙◌, sym, ap, arith, length, lit<}
use Rattle.lock_queue.specs.Jobs.{is_blocking}
use Rattle.key_queues.specs.Entries.{arrived}
use Rattle.key_queues.specs.Stores.{Stored}
use Rattle.key_queues.specs.Tables.{is_there}
use Rattle.key_queues.proofs.Keeps.{and_true, insert_keeps, job_listed, list_read, list_room, number_small, numbered, seen_then}
use Rattle.key_queues.proofs.store.Store.insert.Goals as goal

pub push-requires-2 : goal.push-requires-2
push-requires-2 g c =
    let k = c.self.invariant in
    let is = list_read _ _ _ _ _ _ k 0 c.args.job c.index_mut.result.now c.requires.job c.index_mut.ensures.value in
    let room : length c.self.inside.order < g.row.REQS = omega (arith, ap (λ (s : Stored). length s.order) c.self.view_is, c.requires.room) in
    (lit< tt, omega (arith, ap length is, list_room _ _ _ _ _ _ k 0 c.args.job c.requires.job room))

pub invariant_of-self : goal.invariant_of-self
invariant_of-self g c =
    let k = c.self.invariant in
    let room : length c.self.inside.order < g.row.REQS = omega (arith, ap (λ (s : Stored). length s.order) c.self.view_is, c.requires.room) in
    let list = list_read _ _ _ _ _ _ k 0 c.args.job c.index_mut.result.now c.requires.job c.index_mut.ensures.value in
    let is = c.is_blocking-is.ensures ∙ sym (and_true (is_blocking c.args.asking.now.kind)) in
    rw (c.insert-slot.ensures.contents, c.insert-slot.ensures.len, c.push.ensures, c.push-2.ensures, list, c.recount.ensures, is)
    (insert_keeps _ _ _ _ _ _ k c.insert-slot.result (arrived c.args.job c.args.asking.now c.args.notified)
    c.insert-slot.ensures.free c.insert-slot.ensures.within room c.requires.job)

pub returns-clause-value : goal.returns-clause-value
returns-clause-value g c =
    seen_then _ _ c.args.self.now c.insert-slot.result c.self.view_is _ _ (Some (arrived c.args.job c.args.asking.now c.args.notified))
    (λ l. l ++ c.insert-slot.result ∷ []) c.insert-slot.ensures.contents c.push.ensures

pub recount-requires-clause-room : goal.recount-requires-clause-room
recount-requires-clause-room g c = number_small _ _ _ _ _ _ c.self.invariant 0 c.args.job c.requires.job

pub index_mut-requires : goal.index_mut-requires
index_mut-requires g c = omega (arith, job_listed _ _ _ _ _ _ c.self.invariant 0 c.args.job c.requires.job, c.self.inside.own.ok.0)

pub recount-requires-clause-job : goal.recount-requires-clause-job
recount-requires-clause-job g c = numbered _ _ _ _ _ _ c.self.invariant 0 c.args.job c.requires.job

pub returns-clause-out : goal.returns-clause-out
returns-clause-out g c =
    ap (λ (s : Stored). is_there c.insert-slot.result s.order) (sym c.self.view_is) ∙ c.self.invariant.there c.insert-slot.result
    ∙ ap is_some c.insert-slot.ensures.free
