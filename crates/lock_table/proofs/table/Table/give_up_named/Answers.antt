use Rattle.std.proofs.Common.{◌≡◌, ◌∙◌, sym, subst, refl, arith, true, get_or, lit<, filter, not}
use Rattle.std.proofs.lemmas.Grind.{common_steps}
use Rattle.lock_queue.specs.declared.key.Key.{Key}
use Rattle.lock_queue.specs.Dequeues.{has_wants}
use Rattle.lock_queue.specs.Queue.{names}
use Rattle.lock_queue.specs.Keys.{same_key}
use Rattle.lock_queue.specs.Unused.{unused_want}
use Rattle.lock_table.specs.Reads.{request_at}
use Rattle.lock_table.specs.Departures.{without_key}
use Rattle.lock_table.proofs.Entries.{stays_in, flipped_still, flipped_then, wanting_less}
use Rattle.lock_table.proofs.Named.{gives_up_named, is_next, key_lost, left_start, named_apart, next_left}
use Rattle.lock_table.proofs.Numbers.{later_in_use}
use Rattle.lock_table.proofs.table.Table.give_up_named.Goals as goal

pub loop-i-init : goal.loop-i-init
loop-i-init g c = record {
  table = c.requires.whole.table;
  left = left_start c.args.self.now.store c.args.job c.requires.whole.right;
  flips = flipped_still c.args.self.now.store c.args.self.now.store c.args.self.now.flips (λ x h. refl);
  in_use_still = λ j above within. (c.requires.found j above within).found;
}

pub loop-i-preserved-in_default : goal.loop-i-preserved-in_default
loop-i-preserved-in_default g c =
    let s = c.args.self.now.store in
    let i = c.loop-i.i in
    let next = is_next s c.args.job c.args.named.now i c.requires.passed c.loop-i-test.true in
    absurd
    (key_lost s c.args.self.now.keys next.has.slot (get_or c.args.named.now i unused_want).key c.requires.whole.table next.has.present next.has.named
    ((c.requires.found i (omega arith) c.loop-i-test.true).none c.in_default.is))

pub slot_of-requires : goal.slot_of-requires
slot_of-requires g c =
    let up =
    gives_up_named c.args.self.now.store c.loop-i.self.store c.args.self.now.keys c.loop-i.self.keys c.lock_of.result.now c.args.job c.loop-i.i
    c.args.named.now c.args.found.now c.in-Some.n c.as_slice-slots.result.now c.requires.whole.table c.requires.passed c.loop-i-test.true
    c.loop-i.invariant.table c.loop-i.invariant.left c.loop-i.invariant.in_use_still c.in-Some.is c.lock_of.ensures c.as_slice-slots.ensures.value in
    (lit< tt, up.there)

pub loop-i-preserved-in_default-slot_of : goal.loop-i-preserved-in_default-slot_of
loop-i-preserved-in_default-slot_of g c =
    let up =
    gives_up_named c.args.self.now.store c.loop-i.self.store c.args.self.now.keys c.loop-i.self.keys c.lock_of.result.now c.args.job c.loop-i.i
    c.args.named.now c.args.found.now c.in-Some.n c.as_slice-slots.result.now c.requires.whole.table c.requires.passed c.loop-i-test.true
    c.loop-i.invariant.table c.loop-i.invariant.left c.loop-i.invariant.in_use_still c.in-Some.is c.lock_of.ensures c.as_slice-slots.ensures.value in
    absurd (up.missed (sym c.slot_of.ensures ∙ c.in_default-slot_of.is))

pub give_up_in-requires : goal.give_up_in-requires
give_up_in-requires g c =
    let up =
    gives_up_named c.args.self.now.store c.loop-i.self.store c.args.self.now.keys c.loop-i.self.keys c.lock_of.result.now c.args.job c.loop-i.i
    c.args.named.now c.args.found.now c.in-Some.n c.as_slice-slots.result.now c.requires.whole.table c.requires.passed c.loop-i-test.true
    c.loop-i.invariant.table c.loop-i.invariant.left c.loop-i.invariant.in_use_still c.in-Some.is c.lock_of.ensures c.as_slice-slots.ensures.value in
    let p = c.in-Some-slot_of.p in
    let at = up.at p (sym c.slot_of.ensures ∙ c.in-Some-slot_of.is) in
    let has = subst (λ (k : Key). names (request_at c.loop-i.self.store p).wants.items k ≡ true) (sym up.key_is) at.2 in
    (lit< tt, (c.loop-i.invariant.table, (at.0, (up.in_use_is, has))))

pub loop-i-preserved : goal.loop-i-preserved
loop-i-preserved g c =
    let s = c.args.self.now.store in
    let t = c.loop-i.self.store in
    let i = c.loop-i.i in
    let named = c.args.named.now in
    let inv = c.loop-i.invariant in
    let up =
    gives_up_named c.args.self.now.store c.loop-i.self.store c.args.self.now.keys c.loop-i.self.keys c.lock_of.result.now c.args.job c.loop-i.i
    c.args.named.now c.args.found.now c.in-Some.n c.as_slice-slots.result.now c.requires.whole.table c.requires.passed c.loop-i-test.true
    c.loop-i.invariant.table c.loop-i.invariant.left c.loop-i.invariant.in_use_still c.in-Some.is c.lock_of.ensures c.as_slice-slots.ensures.value in
    let u = c.give_up_in.new.self.store in
    let p = c.in-Some-slot_of.p in
    let w = get_or named i unused_want in
    let gives = c.give_up_in.ensures in
    let at = up.at p (sym c.slot_of.ensures ∙ c.in-Some-slot_of.is) in
    let given = rw up.key_is at gives.given in
    let order = rw up.key_is at gives.order in
    record {
      table = gives.table;
      left = next_left s t u c.args.job i named w up.next c.requires.whole.table.kept.once inv.left p c.requires.whole.jobs at.0 at.1 at.2 given gives.others order;
      flips =
          flipped_then s t u c.args.self.now.flips c.loop-i.self.flips c.give_up_in.new.self.flips
          (λ x h.
          wanting_less t u p x (filter (λ v. not (same_key w.key v.key))) refl (stays_in (has_wants (without_key w.key (request_at t p))) x p t.order u.order inv.table.kept.once order) given
          gives.others h)
          inv.flips gives.flips;
      in_use_still =
          later_in_use c.loop-i.self.keys c.give_up_in.new.self.keys c.in-Some.n i named c.args.found.now gives.locks up.key_is
          (λ j lt within. named_apart named i j lt within (get_or named j unused_want).key (is_next s c.args.job named j c.requires.passed within).new)
          inv.in_use_still;
    }

pub returns-clause-left : goal.returns-clause-left
returns-clause-left g c = grind (arith, common_steps)
