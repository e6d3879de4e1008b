use Rattle.std.proofs.Common.{◌∙◌, ◌==◌, sym, ap, ℕ, List, is_some, map, min, get_or, refl, lit<, arith}
use Rattle.std.proofs.lemmas.Grind.{common_steps}
use Rattle.std.proofs.lemmas.Bool.{both_ways, eq-eqb}
use Rattle.key_queues.specs.declared.lock.Lock.{Lock}
use Rattle.key_queues.specs.Beginnings.{fitting}
use Rattle.key_queues.specs.Locks.{lock_at}
use Rattle.key_queues.specs.Tables.{is_there}
use Rattle.key_queues.proofs.Finding.{find_misses}
use Rattle.lock_table.specs.Reads.{request_at}
use Rattle.lock_table.specs.Changing.{want_then}
use Rattle.lock_table.proofs.Altering.{found, wanted_at, found_of_job, in_use_named, queued_named}
use Rattle.lock_table.proofs.Writing.{some_there, written}
use Rattle.lock_table.proofs.change.alter.Goals as goal

pub returns-in_default-clause-altered : goal.returns-in_default-clause-altered
returns-in_default-clause-altered g c =
    let sound = c.requires.sound in
    let m = in_use_named c.args.store.now c.args.keys.now sound.slot c.args.c.now.key c.requires.between.kept sound.present sound.named in
    absurd (both_ways _ (c.find.ensures.none c.in_default.is m.0) m.1)

pub returns-then-is_some-clause-altered : goal.returns-then-is_some-clause-altered
returns-then-is_some-clause-altered g c =
    let b = c.requires.between in
    let f =
    found c.args.store.now c.args.keys.now c.locks.result.now c.in-Some.n c.args.c.now.key c.index-locks-n.result c.index-locks-n.result.queue.slots b.kept b.used
    c.in-Some.ensures.found c.locks.ensures c.index-locks-n.is refl in
    let some = ap (λ (l : Lock). is_some l.size) (sym f.is) ∙ sym c.is_some.ensures ∙ c.if-is_some.true in
    record {
      order = refl;
      at = λ x present. sym (c.requires.sound.spared c.in-Some.n f.key_is some f.used x present);
      own = λ x. refl;
      flag = λ x. refl;
      key = λ m. refl;
      size = λ m. refl;
      others = λ m ne. refl;
    }

pub fitting_then-k-requires : goal.fitting_then-k-requires
fitting_then-k-requires g c =
    let b = c.requires.between in
    let f =
    found c.args.store.now c.args.keys.now c.locks.result.now c.in-Some.n c.args.c.now.key c.index-locks-n.result c.as_slice-slots.result.now b.kept b.used
    c.in-Some.ensures.found c.locks.ensures c.index-locks-n.is c.as_slice-slots.ensures.value in
    (lit< tt, (f.unpooled (sym c.is_some.ensures ∙ c.if-is_some.false), c.as_slice-slots.ensures.few))

pub want_then-first-requires : goal.want_then-first-requires
want_then-first-requires g c =
    let s = c.args.store.now in
    let sound = c.requires.sound in
    let b = c.requires.between in
    let f =
    found s c.args.keys.now c.locks.result.now c.in-Some.n c.args.c.now.key c.index-locks-n.result c.as_slice-slots.result.now b.kept b.used
    c.in-Some.ensures.found c.locks.ensures c.index-locks-n.is c.as_slice-slots.ensures.value in
    let queued = queued_named s c.args.keys.now c.in-Some.n sound.slot c.args.c.now.key b.kept f.used f.key_is sound.present sound.named in
    let some = some_there sound.slot c.as_slice-slots.result.now (ap (is_there sound.slot) f.slots_is ∙ queued) in
    (lit< tt, f.unpooled (sym c.is_some.ensures ∙ c.if-is_some.false) 0 0 some)

pub slot_of-requires : goal.slot_of-requires
slot_of-requires g c =
    let b = c.requires.between in
    let f =
    found c.args.store.now c.args.keys.now c.locks.result.now c.in-Some.n c.args.c.now.key c.index-locks-n.result c.as_slice-slots.result.now b.kept b.used
    c.in-Some.ensures.found c.locks.ensures c.index-locks-n.is c.as_slice-slots.ensures.value in
    (lit< tt, f.there)

pub alter_want-requires : goal.alter_want-requires
alter_want-requires g c =
    let s = c.args.store.now in
    let b = c.requires.between in
    let f =
    found s c.args.keys.now c.locks.result.now c.in-Some.n c.args.c.now.key c.index-locks-n.result c.as_slice-slots.result.now b.kept b.used
    c.in-Some.ensures.found c.locks.ensures c.index-locks-n.is c.as_slice-slots.ensures.value in
    let p = c.in-Some-slot_of.p in
    let mine = found_of_job s c.args.job c.as_slice-slots.result.now p (sym c.slot_of.ensures ∙ c.in-Some-slot_of.is) in
    let w = wanted_at s c.args.keys.now c.in-Some.n b.kept f.used p (ap (is_there p) (sym f.slots_is) ∙ mine.0) in
    (lit< tt, (w.present, w.within))

pub returns-in-Some-slot_of : goal.returns-in-Some-slot_of
returns-in-Some-slot_of g c =
    let s = c.args.store.now in
    let locks = c.args.keys.now in
    let n = c.in-Some.n in
    let b = c.requires.between in
    let f =
    found s locks c.locks.result.now n c.args.c.now.key c.index-locks-n.result c.as_slice-slots.result.now b.kept b.used
    c.in-Some.ensures.found c.locks.ensures c.index-locks-n.is c.as_slice-slots.ensures.value in
    let p = c.in-Some-slot_of.p in
    let then = want_then s n c.args.job c.args.c.now in
    let mine = found_of_job s c.args.job c.as_slice-slots.result.now p (sym c.slot_of.ensures ∙ c.in-Some-slot_of.is) in
    let fit = c.fitting_then-k.ensures.value ∙ ap (λ (l : List ℕ). fitting (map then l)) f.slots_is in
    let count = ap (λ (j : ℕ). min j (lock_at locks n).queue.fitting) fit in
    let both =
    written s locks n p c.args.job c.args.c.now b c.in-Some.ensures.found (f.none (sym c.is_some.ensures ∙ c.if-is_some.false))
    (ap (is_there p) (sym f.slots_is) ∙ mine.0) mine.1 c.requires.sound.safe c.alter_want.new.store c.recount.new.self
    (min c.fitting_then-k.result (lock_at locks n).queue.fitting)
    c.want_then-first.result c.alter_want.ensures c.recount.ensures count
    (c.want_then-first.ensures ∙ ap (λ (l : List ℕ). then (get_or l 0 0)) f.slots_is) in
    record { between = both.0; altered = both.1 }

pub returns-in_default-slot_of-clause-altered : goal.returns-in_default-slot_of-clause-altered
returns-in_default-slot_of-clause-altered g c =
    let s = c.args.store.now in
    let sound = c.requires.sound in
    let b = c.requires.between in
    let f =
    found s c.args.keys.now c.locks.result.now c.in-Some.n c.args.c.now.key c.index-locks-n.result c.as_slice-slots.result.now b.kept b.used
    c.in-Some.ensures.found c.locks.ensures c.index-locks-n.is c.as_slice-slots.ensures.value in
    let queued = queued_named s c.args.keys.now c.in-Some.n sound.slot c.args.c.now.key b.kept f.used f.key_is sound.present sound.named in
    let missed =
    find_misses (λ q. (request_at s q).job == c.args.job) c.as_slice-slots.result.now sound.slot
    (sym c.slot_of.ensures ∙ c.in_default-slot_of.is) (ap (is_there sound.slot) f.slots_is ∙ queued) in
    absurd (both_ways ((request_at s sound.slot).job == c.args.job) missed (eq-eqb (request_at s sound.slot).job c.args.job sound.mine))

pub recount-requires : goal.recount-requires
recount-requires g c = grind (arith, common_steps)

pub bounds-locks-n : goal.bounds-locks-n
bounds-locks-n g c = grind (arith, common_steps)

pub bounds-slots-0 : goal.bounds-slots-0
bounds-slots-0 g c = grind (arith, common_steps)
