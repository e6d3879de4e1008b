use Rattle.std.proofs.Common.{◌∙◌, sym, ap, ℕ, List, is_some, drop, map, refl, lit<, arith}
use Rattle.std.proofs.lemmas.Grind.{common_steps}
use Rattle.std.specs.List.{list_any}
use Rattle.key_queues.specs.declared.lock.Lock.{Lock}
use Rattle.key_queues.specs.Beginnings.{fitting}
use Rattle.key_queues.specs.Stores.{entry_at}
use Rattle.lock_table.specs.TableStates.{state_of}
use Rattle.lock_table.specs.Reads.{request_at}
use Rattle.lock_table.proofs.Reading.{unused_at}
use Rattle.lock_table.specs.Changing.{fitting_then, want_then}
use Rattle.lock_table.proofs.Altering.{drop_none, found, lost_is, pool_keeps}
use Rattle.lock_table.proofs.change.loses.Goals as goal

pub returns-in_default : goal.returns-in_default
returns-in_default g c =
    let s = c.args.store.now in
    let k = fitting_then (request_at s) s.order c.args.job c.args.c.now in
    sym
    (ap (λ (l : List ℕ). list_any (λ x. (entry_at s x).granted) (drop k l))
    (unused_at (state_of s c.args.keys.now) c.args.c.now.key c.requires.table (c.find.ensures.none c.in_default.is))
    ∙ ap (list_any (λ x. (entry_at s x).granted)) (drop_none k))

pub returns-then-is_some : goal.returns-then-is_some
returns-then-is_some g c =
    let s = c.args.store.now in
    let locks = c.args.keys.now in
    let f =
    found s locks c.locks.result.now c.in-Some.n c.args.c.now.key c.index-locks-n.result c.index-locks-n.result.queue.slots c.requires.table.kept c.requires.table.used
    c.in-Some.ensures.found c.locks.ensures c.index-locks-n.is refl in
    sym
    (pool_keeps s locks c.in-Some.n c.args.job c.args.c.now c.requires.table c.requires.right c.requires.spares f.used f.key_is
    (ap (λ (l : Lock). is_some l.size) (sym f.is) ∙ sym c.is_some.ensures ∙ c.if-is_some.true))

pub fitting_then-k-requires : goal.fitting_then-k-requires
fitting_then-k-requires g c =
    let f =
    found c.args.store.now c.args.keys.now c.locks.result.now c.in-Some.n c.args.c.now.key c.index-locks-n.result c.as_slice-slots.result.now c.requires.table.kept
    c.requires.table.used c.in-Some.ensures.found c.locks.ensures c.index-locks-n.is c.as_slice-slots.ensures.value in
    (lit< tt, (f.unpooled (sym c.is_some.ensures ∙ c.if-is_some.false), c.as_slice-slots.ensures.few))

pub is_some_granted-requires : goal.is_some_granted-requires
is_some_granted-requires g c =
    let f =
    found c.args.store.now c.args.keys.now c.locks.result.now c.in-Some.n c.args.c.now.key c.index-locks-n.result c.as_slice-slots.result.now c.requires.table.kept
    c.requires.table.used c.in-Some.ensures.found c.locks.ensures c.index-locks-n.is c.as_slice-slots.ensures.value in
    (lit< tt, f.there)

pub returns : goal.returns
returns g c =
    let s = c.args.store.now in
    let locks = c.args.keys.now in
    let slots = c.as_slice-slots.result.now in
    let f =
    found s locks c.locks.result.now c.in-Some.n c.args.c.now.key c.index-locks-n.result c.as_slice-slots.result.now c.requires.table.kept c.requires.table.used
    c.in-Some.ensures.found c.locks.ensures c.index-locks-n.is c.as_slice-slots.ensures.value in
    c.is_some_granted.ensures ∙ ap (λ (j : ℕ). list_any (λ p. (entry_at s p).granted) (drop j slots)) c.fitting_then-k.ensures.value
    ∙ ap (λ (l : List ℕ). list_any (λ p. (entry_at s p).granted) (drop (fitting (map (want_then s c.in-Some.n c.args.job c.args.c.now) l)) l))
    f.slots_is
    ∙ sym (lost_is s locks c.in-Some.n c.requires.table.kept f.used c.args.job c.args.c.now f.key_is)

pub bounds-locks-n : goal.bounds-locks-n
bounds-locks-n g c = grind (arith, common_steps)
