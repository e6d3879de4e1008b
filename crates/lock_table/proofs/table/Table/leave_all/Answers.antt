use Rattle.std.proofs.Common.{◌≡◌, ◌+◌, true, sym, subst, ℕ, ◌∷◌, [], ◌++◌, get_or, take, refl}
use Rattle.std.proofs.lemmas.Option.{slice_get-get_or}
use Rattle.key_queues.specs.Tables.{is_there}
use Rattle.key_queues.proofs.Lists.{take_next}
use Rattle.lock_table.specs.Reads.{request_at}
use Rattle.lock_table.specs.Departures.{IsLeft, stays_beside}
use Rattle.lock_table.proofs.Entries.{left_next, left_none, there_beside, flipped_then, flipped_still, wanting_before}
use Rattle.lock_table.proofs.table.Table.leave_all.Goals as goal

pub loop-i-init : goal.loop-i-init
loop-i-init g c = record {
  table = c.requires.table;
  left = left_none c.args.self.now.store;
  flips = flipped_still c.args.self.now.store c.args.self.now.store c.args.self.now.flips (λ x h. refl);
}

pub loop-i-preserved : goal.loop-i-preserved
loop-i-preserved g c =
    let i : ℕ = c.loop-i.i in
    let p : ℕ = get_or c.args.slots.now i 0 in
    let inv = c.loop-i.invariant in
    let next : take (i + 1) c.args.slots.now ≡ take i c.args.slots.now ++ p ∷ [] =
    take_next c.args.slots.now i p (slice_get-get_or c.args.slots.now i 0 c.loop-i-test.true) in
    record {
      table = c.leave.ensures.table;
      left =
          subst (λ l. IsLeft c.args.self.now.store c.leave.new.self.store (request_at c.args.self.now.store) (stays_beside l)) (sym next)
          (left_next c.args.self.now.store c.loop-i.self.store c.leave.new.self.store (take i c.args.slots.now) p
          c.requires.table.kept.once inv.left c.leave.ensures.order inv.table.kept.once c.leave.ensures.others);
      flips =
          flipped_then c.args.self.now.store c.loop-i.self.store c.leave.new.self.store c.args.self.now.flips c.loop-i.self.flips c.leave.new.self.flips
          (λ x h.
          wanting_before c.loop-i.self.store c.leave.new.self.store x
          (λ there.
          let both = there_beside x p c.loop-i.self.store.order inv.table.kept.once (subst (λ l. is_there x l ≡ true) c.leave.ensures.order there) in
          (both.1, c.leave.ensures.others x both.0))
          h)
          inv.flips c.leave.ensures.flips;
    }
