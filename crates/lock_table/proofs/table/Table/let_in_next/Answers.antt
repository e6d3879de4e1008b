use Rattle.std.proofs.Common.{◌≡◌, ◌∙◌, sym, subst, ap, length, arith, lit<, ◌<◌}
use Rattle.std.proofs.lemmas.Bool.{cond-true, cond-false}
use Rattle.std.proofs.lemmas.List.{length-set}
use Rattle.std.proofs.lemmas.Option.{slice_get_within}
use Rattle.std.specs.List.{All}
use Rattle.key_queues.specs.Locks.{lock_at}
use Rattle.key_queues.specs.States.{State, IsFull}
use Rattle.key_queues.proofs.Using.{Next, next_is, full_at_end, full_where_unfit, one_fewer}
use Rattle.key_queues.specs.Stores.{entry_at}
use Rattle.lock_table.specs.TableStates.{state_of}
use Rattle.lock_table.proofs.Entries.{lock_within, own_within, extended_by}
use Rattle.lock_table.proofs.Altering.{not_next}
use Rattle.lock_table.proofs.table.Table.let_in_next.Goals as goal

pub next_slot-requires : goal.next_slot-requires
next_slot-requires g c =
    (lit< tt, lock_within c.args.self.now.store c.args.self.now.keys c.requires.used.slot c.args.n c.requires.kept c.requires.used.stands)

pub returns-in_default-clause-full : goal.returns-in_default-clause-full
returns-in_default-clause-full g c e =
    full_at_end (state_of c.args.self.now.store c.args.self.now.keys) c.args.n c.requires.kept c.requires.used (sym c.next_slot.ensures ∙ c.in_default.is)

pub queued_want-requires : goal.queued_want-requires
queued_want-requires g c =
    let next = next_is (state_of c.args.self.now.store c.args.self.now.keys) c.args.n c.in-Some.p c.requires.kept c.requires.used (sym c.in-Some.ensures) in
    (lit< tt, (next.stands.present, next.within))

pub let_in-requires : goal.let_in-requires
let_in-requires g c =
    let lock = lock_within c.args.self.now.store c.args.self.now.keys c.requires.used.slot c.args.n c.requires.kept c.requires.used.stands in
    let more =
    slice_get_within (lock_at c.args.self.now.keys c.args.n).queue.slots (lock_at c.args.self.now.keys c.args.n).queue.fitting
    c.in-Some.p (sym c.in-Some.ensures) in
    (lit< tt, (lock, more))

pub returns-then-not-let_in-clause-full : goal.returns-then-not-let_in-clause-full
returns-then-not-let_in-clause-full g c e =
    let s : State = state_of c.args.self.now.store c.args.self.now.keys in
    let next =
    subst (Next s c.args.n c.in-Some.p) (sym c.queued_want.ensures)
    (next_is s c.args.n c.in-Some.p c.requires.kept c.requires.used (sym c.in-Some.ensures)) in
    let full : IsFull s c.args.n =
    full_where_unfit s c.args.n c.in-Some.p c.queued_want.result.now c.requires.kept c.requires.used next
    (sym c.let_in.ensures.value ∙ c.if-not-let_in.true) in
    let same : c.let_in.new.self ≡ c.args.self.now.keys = c.let_in.ensures.after ∙ cond-false _ _ _ c.if-not-let_in.true in
    subst (λ l. IsFull (state_of c.args.self.now.store l) c.args.n) (sym same) full

pub renew_marked-requires : goal.renew_marked-requires
renew_marked-requires g c =
    let s = c.args.self.now.store in
    let locks = c.args.self.now.keys in
    let p = c.in-Some.p in
    let next = next_is (state_of s locks) c.args.n p c.requires.kept c.requires.used (sym c.in-Some.ensures) in
    let long = ap length (c.let_in.ensures.after ∙ cond-true _ _ _ c.if-not-let_in.false) ∙ length-set locks c.args.n _ in
    let inside : All (λ n. n < length c.let_in.new.self) (entry_at s p).queues.items =
    λ k d lt. let within = own_within s locks p c.requires.kept next.stands.present k d lt in omega (arith, within, long) in
    let new = not_next s locks c.args.n c.requires.kept c.requires.used c.requires.flags p next.stands (sym c.in-Some.ensures) in
    (lit< tt, (lit< tt, (lit< tt, (next.stands.present, (inside, λ granted. absurd (new granted))))))

pub returns-clause-extended : goal.returns-clause-extended
returns-clause-extended g c =
    let s : State = state_of c.args.self.now.store c.args.self.now.keys in
    let next =
    subst (Next s c.args.n c.in-Some.p) (sym c.queued_want.ensures)
    (next_is s c.args.n c.in-Some.p c.requires.kept c.requires.used (sym c.in-Some.ensures)) in
    extended_by c.args.self.now.store c.args.self.now.keys c.renew_marked.new.store c.let_in.new.self c.args.n c.in-Some.p c.queued_want.result.now
    c.requires.kept c.requires.flags c.requires.used (sym c.in-Some.ensures) next (sym c.let_in.ensures.value ∙ c.if-not-let_in.false)
    (c.let_in.ensures.after ∙ cond-true _ _ _ c.if-not-let_in.false) c.renew_marked.ensures.renews

pub returns-clause-fewer : goal.returns-clause-fewer
returns-clause-fewer g c =
    let lt = lock_within c.args.self.now.store c.args.self.now.keys c.requires.used.slot c.args.n c.requires.kept c.requires.used.stands in
    let next =
    slice_get_within (lock_at c.args.self.now.keys c.args.n).queue.slots (lock_at c.args.self.now.keys c.args.n).queue.fitting
    c.in-Some.p (sym c.in-Some.ensures) in
    one_fewer c.args.self.now.keys c.let_in.new.self c.args.n c.queued_want.result.now lt next
    (c.let_in.ensures.after ∙ cond-true _ _ _ c.if-not-let_in.false)
