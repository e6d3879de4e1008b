use Rattle.std.proofs.Common.{◌≡◌, ◌∙◌, ap, subst, true, false, arith, lit<, rules}
use Rattle.lock_queue.specs.Dequeues.{has_wants}
use Rattle.key_queues.specs.Locks.{lock_at}
use Rattle.key_queues.specs.Tables.{is_there}
use Rattle.key_queues.specs.Stores.{entry_at}
use Rattle.lock_table.specs.Departures.{KeepsLocks}
use Rattle.lock_table.proofs.Entries.{gone, there_beside}
use Rattle.lock_table.proofs.Named.{key_given, none_left, stands_at}
use Rattle.lock_table.proofs.table.Table.give_up_in.Goals as goal

pub depart-requires : goal.depart-requires
depart-requires g c =
    let r = c.requires in
    let at =
    stands_at c.args.self.now.store c.args.self.now.keys c.args.p c.args.n c.index_of-k.result c.get.result.now c.as_slice.result.now r.table r.present r.in_use r.named
    c.get.ensures.value c.as_slice.ensures.value c.index_of-k.ensures in
    (lit< tt, (r.table, (r.present, at.want.within)))

pub returns-then-is_empty : goal.returns-then-is_empty
returns-then-is_empty g c =
    let s = c.args.self.now.store in
    let locks = c.args.self.now.keys in
    let r = c.requires in
    let at =
    stands_at s locks c.args.p c.args.n c.index_of-k.result c.get.result.now c.as_slice.result.now r.table r.present r.in_use r.named
    c.get.ensures.value c.as_slice.ensures.value c.index_of-k.ensures in
    let given =
    key_given s c.depart.new.self.store locks c.depart.new.self.keys c.args.p c.index_of-k.result (lock_at locks c.args.n).key r.table r.present at.want
    c.depart.ensures.left in
    let t = c.depart.new.self.store in
    let left = c.depart.ensures in
    let present : is_there c.args.p t.order ≡ true = ap (is_there c.args.p) left.left.order ∙ r.present in
    let none : has_wants (entry_at t c.args.p).request ≡ false = grind (arith, c.get-2.ensures.value, c.is_empty.ensures, c.if-is_empty.true) in
    let both =
    gone s t c.remove.new.self c.depart.new.self.keys c.args.p c.args.self.now.flips c.depart.new.self.flips left.table present
    (none_left t c.depart.new.self.keys c.args.p left.table present none) left.flips c.remove.ensures.within c.remove.ensures.value in
    record {
      table = both.0;
      locks = subst (KeepsLocks locks c.depart.new.self.keys) at.own left.locks;
      given = λ h. grind (arith, there_beside c.args.p c.args.p t.order left.table.kept.once);
      others = search rules;
      order = grind (arith, given, c.get-2.ensures.value, c.is_empty.ensures, c.if-is_empty.true);
      flips = both.1;
    }

pub returns-else-is_empty : goal.returns-else-is_empty
returns-else-is_empty g c =
    let s = c.args.self.now.store in
    let locks = c.args.self.now.keys in
    let r = c.requires in
    let at =
    stands_at s locks c.args.p c.args.n c.index_of-k.result c.get.result.now c.as_slice.result.now r.table r.present r.in_use r.named
    c.get.ensures.value c.as_slice.ensures.value c.index_of-k.ensures in
    let given =
    key_given s c.depart.new.self.store locks c.depart.new.self.keys c.args.p c.index_of-k.result (lock_at locks c.args.n).key r.table r.present at.want
    c.depart.ensures.left in
    record {
      table = c.depart.ensures.table;
      locks = subst (KeepsLocks locks c.depart.new.self.keys) at.own c.depart.ensures.locks;
      given = λ h. given;
      others = c.depart.ensures.left.others;
      order = grind (arith, given, c.get-2.ensures.value, c.is_empty.ensures, c.if-is_empty.false);
      flips = c.depart.ensures.flips;
    }
