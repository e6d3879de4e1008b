use Rattle.std.proofs.Common.{refl, arith}
use Rattle.key_queues.specs.Kept.{appended, no_queue}
use Rattle.key_queues.specs.Locks.{lock_at}
use Rattle.key_queues.specs.LockUse.{fresh_lock}
use Rattle.key_queues.proofs.Finding.{entered_begun, entered_in_use, found_in_use, keyed_lock, keyed_queue, lock_read, in_use_parts, in_use_within}
use Rattle.key_queues.proofs.keys.Keys.enter.Goals as goal

pub invariant_of-self : goal.invariant_of-self
invariant_of-self g c =
    let key = c.args.w.now.key in
    let found = found_in_use c.args.self.now key c.args.found c.in-Some.n c.requires.number c.in-Some.is in
    let in_use_for = in_use_parts key (lock_at c.self.inside.locks.items c.in-Some.n) (rw c.self.view_is found) in
    keyed_queue _ _ _ _ c.in-Some.n _ c.append.new.self c.self.invariant in_use_for.0 c.index_mut.ensures.value

pub invariant_of-self-2 : goal.invariant_of-self-2
invariant_of-self-2 g c =
    rw c.begin.ensures
    (keyed_lock _ _ _ _ c.take_free-n.result c.args.found.hash (record (fresh_lock c.args.w.now) { queue = appended no_queue c.args.p c.args.w.now }) _ _
    c.self-2.invariant (rw c.self-2.view_is c.take_free-n.ensures.within) refl c.requires.number.hash c.index_mut-3.ensures.value c.put.ensures)

pub returns : goal.returns
returns g c =
    rw (c.begin.ensures, c.self-2.view_is)
    (entered_begun c.args.self.now c.take_free-n.new.self c.args.p c.args.w.now c.take_free-n.result c.take_free-n.ensures
    (c.requires.number.none c.in_default.is))

pub returns-in-Some : goal.returns-in-Some
returns-in-Some g c =
    let some = found_in_use c.args.self.now c.args.w.now.key c.args.found c.in-Some.n c.requires.number c.in-Some.is in
    entered_in_use _ _ c.args.p c.args.w.now c.in-Some.n _ _ some c.self.view_is c.index_mut.ensures.value c.append.ensures

pub index_mut-requires : goal.index_mut-requires
index_mut-requires g c = grind (arith, found_in_use, in_use_parts, in_use_within)

pub append-requires : goal.append-requires
append-requires g c = grind (arith, found_in_use, lock_read, in_use_parts, in_use_within, c.requires.few)
