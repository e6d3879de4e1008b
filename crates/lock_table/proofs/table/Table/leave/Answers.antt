use Rattle.std.proofs.Common.{◌≡◌, true, subst, ◌<◌, ◌-◌, ◌∙◌, sym, ap, length, arith, rules}
use Rattle.std.specs.List.{remove}
use Rattle.std.proofs.lemmas.List.Edits.{length-remove}
use Rattle.key_queues.specs.Tables.{is_there}
use Rattle.key_queues.specs.Stores.{entry_at}
use Rattle.lock_table.proofs.Entries.{absent, gone, none_removed, flipped_then, wanting_less}
use Rattle.lock_table.proofs.table.Table.leave.Goals as goal

pub loop-left-preserved : goal.loop-left-preserved
loop-left-preserved g c =
    let was = c.loop-left.invariant in
    let left = c.depart.ensures.left in
    let queues = (entry_at c.loop-left.self.store c.args.p).queues.items in
    let lt : c.loop-left.left - 1 < length queues = omega (arith, was.left, c.loop-left-test.true) in
    let fewer = ap length left.owns in
    record {
      table = c.depart.ensures.table;
      left = omega (arith, was.left, fewer, length-remove queues (c.loop-left.left - 1) lt, c.loop-left-test.true);
      order = left.order ∙ was.order;
      others = λ x ne. left.others x ne ∙ was.others x ne;
      flips =
          flipped_then c.args.self.now.store c.loop-left.self.store c.depart.new.self.store c.args.self.now.flips c.loop-left.self.flips
          c.depart.new.self.flips
          (λ x h.
          wanting_less c.loop-left.self.store c.depart.new.self.store c.args.p x (λ ws. remove ws (c.loop-left.left - 1))
          (none_removed (c.loop-left.left - 1)) (subst (λ l. is_there x l ≡ true) left.order) (λ there. left.left) left.others h)
          was.flips c.depart.ensures.flips;
    }

pub returns-then-not-contains-clause-order : goal.returns-then-not-contains-clause-order
returns-then-not-contains-clause-order g c = sym (absent c.args.p c.args.self.now.store.order (sym c.contains.ensures ∙ c.if-not-contains.true))

pub returns : goal.returns
returns g c =
    let inv = c.loop-left.invariant in
    let present = ap (is_there c.args.p) inv.order ∙ sym c.contains.ensures ∙ c.if-not-contains.false in
    let both =
    gone c.args.self.now.store c.loop-left.self.store c.remove.new.self c.loop-left.self.keys c.args.p c.args.self.now.flips c.loop-left.self.flips
    inv.table present (omega (arith, inv.left, c.loop-left-test.false)) inv.flips c.remove.ensures.within c.remove.ensures.value in
    record { table = both.0; order = search rules; others = search rules; flips = both.1 }
