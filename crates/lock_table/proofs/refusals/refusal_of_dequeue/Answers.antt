use Rattle.std.proofs.Common.{◌≡◌, ◌∙◌, ◌+◌, ◌<◌, sym, ap, true, false, length, arith, refl, lit<}
use Rattle.std.proofs.lemmas.List.{get_or_read}
use Rattle.std.proofs.lemmas.Option.{none-some}
use Rattle.lock_queue.specs.Queue.{names, wants_of}
use Rattle.lock_queue.specs.Unused.{unused_want}
use Rattle.key_queues.specs.Locks.{lock_at}
use Rattle.key_queues.specs.States.{in_use}
use Rattle.key_queues.proofs.Finding.{found_in_use, in_use_parts}
use Rattle.lock_table.specs.Whole.{requests_in}
use Rattle.lock_table.proofs.Faults.{found_more, given_here, hashes_of}
use Rattle.lock_table.proofs.Queued.{unwanted_by}
use Rattle.lock_table.proofs.refusals.refusal_of_dequeue.Given.{Over}
use Rattle.lock_table.proofs.refusals.refusal_of_dequeue.Goals as goal

pub loop-i-init : goal.loop-i-init
loop-i-init g c = record { fault = refl; long = ap length c.requires.none; found = λ j lt. absurd (omega (arith, lt)) }

pub is_named-requires-clause-hashes : goal.is_named-requires-clause-hashes
is_named-requires-clause-hashes g c =
    hashes_of c.args.keys.now c.args.named.now c.loop-i.found.items c.loop-i.i c.loop-i.invariant.found c.as_slice.result.now c.as_slice.ensures.value

pub returns-then-is_named : goal.returns-then-is_named
returns-then-is_named g c =
    let told =
    given_here (requests_in c.args.store.now) c.args.job c.args.named.now c.loop-i.i c.index-named-i.result c.loop-i-test.true c.index-named-i.is true
    (names (wants_of (requests_in c.args.store.now) c.args.job) c.index-named-i.result.key) (sym c.is_named.ensures ∙ c.if-is_named.true) refl
    c.loop-i.invariant.fault in
    record { refusal = told; long = λ e. absurd (none-some _ (sym e)); found = λ e. absurd (none-some _ (sym e)) }

-- the lock that was found is in use, and of the key
parts : (g : Over) (c : goal.In-Some g) → (in_use (lock_at c.args.keys.now c.in-Some.n).queue ≡ true) × ((lock_at c.args.keys.now c.in-Some.n).key ≡ c.index-named-i.result.key)
parts g c =
    in_use_parts c.index-named-i.result.key (lock_at c.args.keys.now c.in-Some.n)
    (found_in_use c.args.keys.now c.index-named-i.result.key c.look_up-seen.result c.in-Some.n c.look_up-seen.ensures c.in-Some.is)

pub is_wanted_by-requires : goal.is_wanted_by-requires
is_wanted_by-requires g c = (lit< tt, (lit< tt, (c.requires.table, ((parts g c).0, c.requires.job))))

pub returns-in_default : goal.returns-in_default
returns-in_default g c =
    let told =
    given_here (requests_in c.args.store.now) c.args.job c.args.named.now c.loop-i.i c.index-named-i.result c.loop-i-test.true c.index-named-i.is false
    false (sym c.is_named.ensures ∙ c.if-is_named.false)
    (unwanted_by c.args.store.now c.args.keys.now c.index-named-i.result.key c.requires.table (c.look_up-seen.ensures.none c.in_default.is) c.args.job)
    c.loop-i.invariant.fault in
    record { refusal = told; long = λ e. absurd (none-some _ (sym e)); found = λ e. absurd (none-some _ (sym e)) }

pub returns-then-not-is_wanted_by : goal.returns-then-not-is_wanted_by
returns-then-not-is_wanted_by g c =
    let key = (parts g c.before.before).1 in
    let told =
    given_here (requests_in c.args.store.now) c.args.job c.args.named.now c.loop-i.i c.index-named-i.result c.loop-i-test.true c.index-named-i.is false
    false (sym c.is_named.ensures ∙ c.if-is_named.false)
    (ap (names (wants_of (requests_in c.args.store.now) c.args.job)) (sym key) ∙ sym c.is_wanted_by.ensures ∙ c.if-not-is_wanted_by.true)
    c.loop-i.invariant.fault in
    record { refusal = told; long = λ e. absurd (none-some _ (sym e)); found = λ e. absurd (none-some _ (sym e)) }

pub loop-i-preserved : goal.loop-i-preserved
loop-i-preserved g c =
    let i = c.loop-i.i in
    let named = c.args.named.now in
    let w = c.index-named-i.result in
    let lt : i < length named = c.loop-i-test.true in
    let key = (parts g c.before.before.before.before).1 in
    record {
      fault =
          given_here (requests_in c.args.store.now) c.args.job named i w lt c.index-named-i.is false true
          (sym c.is_named.ensures ∙ c.if-is_named.false)
          (ap (names (wants_of (requests_in c.args.store.now) c.args.job)) (sym key) ∙ sym c.is_wanted_by.ensures ∙ c.if-not-is_wanted_by.false)
          c.loop-i.invariant.fault;
      long = c.push.ensures.len ∙ ap (λ n. n + 1) c.loop-i.invariant.long;
      found =
          found_more c.args.keys.now named c.loop-i.found.items i c.loop-i.invariant.found c.push.new.self.items w c.look_up-seen.result
          c.loop-i.invariant.long c.push.ensures.items (get_or_read named i w lt c.index-named-i.is unused_want) c.look_up-seen.ensures;
    }
