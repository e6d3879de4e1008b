use Rattle.std.proofs.Common.{◌≡◌, ◌==◌, ◌∙◌, sym, ap, subst, ℕ, true, false, not, length, lit<, arith}
use Rattle.key_queues.specs.Locks.{lock_at}
use Rattle.lock_table.specs.Departures.{KeepsLocks}
use Rattle.lock_table.specs.TableStates.{own_at, state_of}
use Rattle.key_queues.specs.Tables.{is_there}
use Rattle.key_queues.specs.States.{State, IsTable, IsUsed, InUseHaveRequests, CountsBut}
use Rattle.key_queues.proofs.Using.{used_after, full_empty, full_extended}
use Rattle.key_queues.proofs.LockUseLaws.{in_use_given_up, in_use_extended}
use Rattle.lock_table.proofs.Entries.{flipped_then, wanting_before}
use Rattle.lock_table.proofs.table.Table.depart.Goals as goal

pub extend-requires : goal.extend-requires
extend-requires g c =
    let n : ℕ = own_at c.args.self.now.store c.args.p c.args.k in
    let t : State = state_of c.give_up-n.new.self.store c.give_up-n.new.self.keys in
    let some : (length (lock_at c.give_up-n.new.self.keys n).queue.slots == 0) ≡ false =
    ap (λ m. length (lock_at c.give_up-n.new.self.keys m).queue.slots == 0) (sym c.give_up-n.ensures.number) ∙ sym c.is_empty.ensures ∙ c.if-is_empty.false in
    let used =
    used_after (state_of c.args.self.now.store c.args.self.now.keys) t c.args.p c.args.k c.requires.table.kept
    c.give_up-n.ensures.kept c.requires.present c.requires.want c.give_up-n.ensures.gives c.give_up-n.ensures.counts some in
    (lit< tt, (c.give_up-n.ensures.kept, (c.give_up-n.ensures.flags, subst (IsUsed t) (sym c.give_up-n.ensures.number) used)))

pub returns-then-is_empty-clause-table : goal.returns-then-is_empty-clause-table
returns-then-is_empty-clause-table g c =
    let n : ℕ = own_at c.args.self.now.store c.args.p c.args.k in
    let none : (length (lock_at c.give_up-n.new.self.keys n).queue.slots == 0) ≡ true =
    ap (λ m. length (lock_at c.give_up-n.new.self.keys m).queue.slots == 0) (sym c.give_up-n.ensures.number) ∙ sym c.is_empty.ensures ∙ c.if-is_empty.true in
    subst (λ l. IsTable (state_of c.give_up-n.new.self.store l)) (sym c.free_if_unused.ensures)
    (record {
      kept = c.give_up-n.ensures.kept;
      flags = c.give_up-n.ensures.flags;
      full = full_empty (state_of c.give_up-n.new.self.store c.give_up-n.new.self.keys) n c.give_up-n.ensures.kept (c.give_up-n.ensures.full c.requires.table.full) none;
      used =
          in_use_given_up (state_of c.args.self.now.store c.args.self.now.keys) (state_of c.give_up-n.new.self.store c.give_up-n.new.self.keys) c.args.p
          c.args.k c.requires.table.kept c.give_up-n.ensures.kept c.requires.present c.requires.want c.give_up-n.ensures.gives
          c.give_up-n.ensures.counts c.requires.table.used;
    })

pub returns-then-is_empty-clause-locks : goal.returns-then-is_empty-clause-locks
returns-then-is_empty-clause-locks g c =
    let gives = c.give_up-n.ensures.gives in
    subst (λ l. KeepsLocks c.args.self.now.keys l (own_at c.args.self.now.store c.args.p c.args.k)) (sym c.free_if_unused.ensures)
    (record { keys = gives.key; queues = gives.others })

pub returns-else-is_empty : goal.returns-else-is_empty
returns-else-is_empty g c =
    let s : State = state_of c.args.self.now.store c.args.self.now.keys in
    let m : State = state_of c.give_up-n.new.self.store c.give_up-n.new.self.keys in
    let t : State = state_of c.extend.new.self.store c.extend.new.self.keys in
    let some : (length (lock_at c.give_up-n.new.self.keys c.give_up-n.result).queue.slots == 0) ≡ false = sym c.is_empty.ensures ∙ c.if-is_empty.false in
    let gives = c.give_up-n.ensures.gives in
    let more = c.extend.ensures.extended in
    let stay : InUseHaveRequests m =
    in_use_given_up s m c.args.p c.args.k c.requires.table.kept c.give_up-n.ensures.kept c.requires.present c.requires.want
    gives c.give_up-n.ensures.counts c.requires.table.used in
    let used : IsUsed m c.give_up-n.result = stay c.give_up-n.result (ap not some) in
    record {
      table = record {
        kept = more.kept;
        flags = more.flags;
        full =
            full_extended m t c.give_up-n.result
            (subst (λ j. CountsBut j m) (sym c.give_up-n.ensures.number) (c.give_up-n.ensures.full c.requires.table.full))
            more c.extend.ensures.full;
        used = in_use_extended m t c.give_up-n.result more used stay;
      };
      left = grind arith;
      locks = record {
        keys = λ n. more.key n ∙ gives.key n;
        queues = λ n ne. more.others n (λ e. ne (e ∙ c.give_up-n.ensures.number)) ∙ gives.others n ne;
      };
      flips =
          flipped_then c.args.self.now.store c.give_up-n.new.self.store c.extend.new.self.store c.args.self.now.flips c.give_up-n.new.self.flips c.extend.new.self.flips
          (λ x h. wanting_before c.give_up-n.new.self.store c.extend.new.self.store x (λ there. (subst (λ l. is_there x l ≡ true) more.order there, more.at x)) h)
          c.give_up-n.ensures.flips c.extend.ensures.flips;
    }
