use Rattle.std.proofs.Common.{◌≡◌, true, ◌<◌, ◌∙◌, sym, ap, subst, length, arith, lit<, refl, rules}
use Rattle.std.proofs.lemmas.List.{length-set}
use Rattle.std.specs.List.{All}
use Rattle.key_queues.specs.declared.entry.Entry.{Entry}
use Rattle.key_queues.specs.Tables.{is_there}
use Rattle.key_queues.specs.Stores.{Stored, entry_at}
use Rattle.lock_table.specs.TableStates.{own_at}
use Rattle.lock_table.proofs.Entries.{entry_like, given, own_within_less, gives_up_by, given_up, still_granted}
use Rattle.lock_table.proofs.table.Table.give_up.Goals as goal

pub leave_queue_of-n-requires : goal.leave_queue_of-n-requires
leave_queue_of-n-requires g c =
    let all = given c.args.self.now.store c.args.self.now.keys c.args.p c.args.k c.requires.kept c.requires.present c.requires.want in
    (lit< tt, (lit< tt, (c.requires.present, (c.requires.want, (all.wants_in, (all.lock_in, all.slot_in))))))

pub take_want-requires : goal.take_want-requires
take_want-requires g c =
    let all = given c.args.self.now.store c.args.self.now.keys c.args.p c.args.k c.requires.kept c.requires.present c.requires.want in
    (lit< tt, (c.requires.present, (all.wants_in, c.requires.want)))

pub renew_marked-requires : goal.renew_marked-requires
renew_marked-requires g c =
    let s = c.args.self.now.store in
    let locks = c.args.self.now.keys in
    let p = c.args.p in
    let a = given s locks p c.args.k c.requires.kept c.requires.present c.requires.want in
    let all : All (λ n. n < length locks) (entry_at c.take_want.new.self p).queues.items =
    subst (λ l. All (λ n. n < length locks) (entry_at l p).queues.items) (sym c.take_want.ensures.value)
    (own_within_less s locks p c.args.k c.requires.kept c.requires.present a.entry_in) in
    let long = ap length c.leave_queue_of-n.ensures.after ∙ length-set locks (own_at s p c.args.k) _ in
    let still =
    still_granted s c.take_want.new.self locks c.leave_queue_of-n.new.keys p c.args.k
    c.requires.kept c.requires.flags c.requires.present c.requires.want a c.take_want.ensures.value c.leave_queue_of-n.ensures.after in
    let present = subst (λ (v : Stored). is_there p v.order ≡ true) (sym c.take_want.ensures.value) c.requires.present in
    let inside : All (λ n. n < length c.leave_queue_of-n.new.keys) (entry_at c.take_want.new.self p).queues.items =
    λ j d lt. omega (arith, all j d lt, long) in
    (lit< tt, (lit< tt, (lit< tt, (present, (inside, still)))))

pub returns : goal.returns
returns g c =
    let s = c.args.self.now.store in
    let locks = c.args.self.now.keys in
    let a = given s locks c.args.p c.args.k c.requires.kept c.requires.present c.requires.want in
    let all =
    given_up s c.take_want.new.self c.renew_marked.new.store locks c.leave_queue_of-n.new.keys c.args.p
    c.args.k c.requires.kept c.requires.flags c.requires.present c.requires.want c.take_want.ensures.value
    c.leave_queue_of-n.ensures.after c.renew_marked.ensures.renews in
    let like = entry_like s c.take_want.new.self c.args.p _ a.entry_in (ap (λ (v : Stored). v.entries) c.take_want.ensures.value) in
    record {
      number = c.leave_queue_of-n.ensures.number;
      kept = all.0;
      flags = all.1;
      gives =
          gives_up_by s c.take_want.new.self c.renew_marked.new.store locks c.leave_queue_of-n.new.keys c.args.p
          c.args.k c.requires.kept c.requires.want a c.take_want.ensures.value c.leave_queue_of-n.ensures.after c.renew_marked.ensures.renews;
      full = all.2;
      counts = all.3;
      lock = omega (arith, a.lock_in, ap length c.leave_queue_of-n.ensures.after ∙ length-set locks (own_at s c.args.p c.args.k) _);
      request = search rules;
      flips = λ x h. grind (arith, c.renew_marked.ensures.flips x h, like (λ (v : Entry). v.granted) refl x);
    }
