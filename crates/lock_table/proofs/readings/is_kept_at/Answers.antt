use Rattle.std.proofs.Common.{◌≡◌, ◌∙◌, ◌&&◌, Bool, ap, arith, get_or, lit<, not, refl, rules, sym, true}
use Rattle.std.proofs.lemmas.Grind.{common_steps}
use Rattle.key_queues.specs.declared.entry.Entry.{Entry}
use Rattle.key_queues.specs.Locks.{lock_at}
use Rattle.lock_table.specs.TableStates.{own_at}
use Rattle.lock_table.proofs.Keepers.{before_present, kept_is, want_read, lock_in_use}
use Rattle.lock_table.proofs.readings.is_kept_at.Goals as goal

kept_where : (b x y : Bool) → b ≡ true → (b && x) ≡ y → x ≡ y
kept_where b x y does kept = grind arith

pub is_in_the_way_at-requires : goal.is_in_the_way_at-requires
is_in_the_way_at-requires g c =
    rw (c.index_of.ensures, c.as_slice-slots.ensures.value, c.lock_of.ensures, c.as_slice.ensures.value, c.get-f.ensures.value)
    (lit< tt, before_present c.args.store.now c.args.keys.now c.args.p c.args.k c.requires.table c.requires.present c.requires.want)

pub returns-then-not-counts : goal.returns-then-not-counts
returns-then-not-counts g c =
    let s = c.args.store.now in
    let locks = c.args.keys.now in
    let lock : c.lock_of.result.now ≡ lock_at locks (own_at s c.args.p c.args.k) =
    rw (c.lock_of.ensures, c.as_slice.ensures.value, c.get-f.ensures.value) refl in
    let wants = c.as_slice-then-not-counts.ensures.value ∙ ap (λ (f : Entry). f.request.wants.items) c.get-f.ensures.value in
    let w =
    want_read s locks c.args.p c.args.k c.requires.table c.requires.present c.requires.want _
    (c.index-as_slice-k.is ∙ ap (λ l. get_or l c.args.k c.index-as_slice-k.result) wants) in
    rw (c.is_in_the_way_at.ensures, c.index_of.ensures, c.as_slice-slots.ensures.value, w)
    (kept_where _ _ _ (ap not (sym c.counts.ensures ∙ c.if-not-counts.true))
    (kept_is s locks c.args.p c.args.k c.requires.table c.requires.present c.requires.want c.args.job _ _ lock refl))

pub returns-else-not-counts : goal.returns-else-not-counts
returns-else-not-counts g c =
    let s = c.args.store.now in
    let lock : c.lock_of.result.now ≡ lock_at c.args.keys.now (own_at s c.args.p c.args.k) =
    rw (c.lock_of.ensures, c.as_slice.ensures.value, c.get-f.ensures.value) refl in
    search (rules, kept_is s c.args.keys.now c.args.p c.args.k c.requires.table c.requires.present c.requires.want c.args.job _ _ lock refl)

pub lock_of-requires : goal.lock_of-requires
lock_of-requires g c = grind (arith, common_steps, kept_is, lock_in_use)

pub slice_bounds-before-end : goal.slice_bounds-before-end
slice_bounds-before-end g c = grind (arith, common_steps, kept_is, lock_in_use)
