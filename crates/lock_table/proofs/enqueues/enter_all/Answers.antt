use Rattle.std.proofs.Common.{◌≡◌, false, sym, ap, subst, arith, length, get_or, lit<, rules}
use Rattle.std.proofs.lemmas.Grind.{common_steps}
use Rattle.std.proofs.lemmas.List.{get_or_read}
use Rattle.lock_queue.specs.declared.want.Want.{Want}
use Rattle.lock_queue.specs.Keys.{same_key}
use Rattle.lock_queue.specs.Unused.{unused_want}
use Rattle.key_queues.specs.Found.{IsFound}
use Rattle.key_queues.specs.Stores.{Stored}
use Rattle.lock_table.specs.Arrivals.{Admits, no_found}
use Rattle.lock_table.proofs.Arriving.{apart_at, entered_one, room_left}
use Rattle.lock_table.proofs.Numbers.{found_later}
use Rattle.lock_table.proofs.enqueues.enter_all.Goals as goal

pub enter-n-requires : goal.enter-n-requires
enter-n-requires g c =
    let a = c.loop-k.invariant.arriving in
    let w = c.index-wants-k.result in
    let k = c.loop-k.k in
    let read = get_or_read c.args.wants.now k w c.loop-k-test.true c.index-wants-k.is unused_want in
    let takes : Admits c.loop-k.keys w = subst (Admits c.loop-k.keys) (sym read) (a.admits k (omega arith) c.loop-k-test.true) in
    let found : IsFound c.loop-k.keys w.key (get_or c.args.found.now k no_found) =
    subst (λ (v : Want). IsFound c.loop-k.keys v.key (get_or c.args.found.now k no_found)) (sym read)
    (c.loop-k.invariant.found k (omega arith) c.loop-k-test.true) in
    let left = room_left c.loop-k.store c.loop-k.keys c.args.p c.args.wants.now k a c.loop-k-test.true in
    (lit< tt, (found, (λ all. left (omega (arith, all, c.loop-k.invariant.few)), takes.room)))

pub loop-k-preserved : goal.loop-k-preserved
loop-k-preserved g c =
    let a = c.loop-k.invariant.arriving in
    let wants = c.args.wants.now in
    let w = c.index-wants-k.result in
    let k = c.loop-k.k in
    let read = get_or_read wants k w c.loop-k-test.true c.index-wants-k.is unused_want in
    record {
      arriving =
          entered_one c.loop-k.store c.push_want.new.self c.loop-k.keys c.enter-n.new.self c.args.p c.enter-n.result k
          wants w a c.loop-k-test.true read c.push_want.ensures.within c.enter-n.ensures c.push_want.ensures.value;
      few = omega (arith, c.loop-k.invariant.few, ap (λ (v : Stored). length v.order) c.push_want.ensures.value);
      found =
          λ j above within.
          let v = get_or wants j unused_want in
          let other : same_key w.key v.key ≡ false =
          subst (λ (u : Want). same_key u.key v.key ≡ false) (sym read) (apart_at wants k j unused_want a.apart (omega (arith, above)) within) in
          found_later c.loop-k.keys c.enter-n.new.self c.args.p c.enter-n.result w v.key c.enter-n.ensures other (get_or c.args.found.now j no_found)
          (c.loop-k.invariant.found j (omega (arith, above)) within);
      same = search rules;
    }

pub push_want-requires : goal.push_want-requires
push_want-requires g c = grind (arith, common_steps)
