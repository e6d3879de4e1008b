use Rattle.std.proofs.Common.{◌∙◌, ◌+◌, ◌<◌, sym, ap, true, false, length, arith, refl, is_some}
use Rattle.std.proofs.lemmas.List.{get_or_read}
use Rattle.std.proofs.lemmas.Option.{none-some}
use Rattle.lock_queue.specs.Unused.{unused_want}
use Rattle.lock_table.specs.Whole.{requests_in}
use Rattle.lock_table.proofs.Faults.{fault_here, found_more, hashes_of, none_here}
use Rattle.lock_table.proofs.refusals.first_enqueue_fault.Goals as goal

pub loop-i-init : goal.loop-i-init
loop-i-init g c = record { fault = refl; long = ap length c.requires.none; found = λ j lt. absurd (omega (arith, lt)) }

pub returns-then-is_some-clause-fault : goal.returns-then-is_some-clause-fault
returns-then-is_some-clause-fault g c =
    c.fault_beside-fault.ensures
    ∙ fault_here (requests_in c.args.store.now) c.args.job c.args.wants.now c.loop-i.i c.index-wants-i.result c.loop-i-test.true c.index-wants-i.is
    c.loop-i.invariant.fault (ap is_some (sym c.fault_beside-fault.ensures) ∙ sym c.is_some.ensures ∙ c.if-is_some.true)

pub is_named-requires-clause-hashes : goal.is_named-requires-clause-hashes
is_named-requires-clause-hashes g c =
    hashes_of c.args.keys.now c.args.wants.now c.loop-i.found.items c.loop-i.i c.loop-i.invariant.found c.as_slice.result.now c.as_slice.ensures.value

pub returns-then-is_named : goal.returns-then-is_named
returns-then-is_named g c =
    let told =
    none_here (requests_in c.args.store.now) c.args.job c.args.wants.now c.loop-i.i c.index-wants-i.result c.loop-i-test.true c.index-wants-i.is
    c.loop-i.invariant.fault true (ap is_some (sym c.fault_beside-fault.ensures) ∙ sym c.is_some.ensures ∙ c.if-is_some.false)
    (sym c.is_named.ensures ∙ c.if-is_named.true) in
    record { fault = told; long = λ e. absurd (none-some _ (sym e)); found = λ e. absurd (none-some _ (sym e)) }

pub loop-i-preserved : goal.loop-i-preserved
loop-i-preserved g c =
    let i = c.loop-i.i in
    let wants = c.args.wants.now in
    let w = c.index-wants-i.result in
    let lt : i < length wants = c.loop-i-test.true in
    record {
      fault =
          none_here (requests_in c.args.store.now) c.args.job wants i w lt c.index-wants-i.is c.loop-i.invariant.fault false
          (ap is_some (sym c.fault_beside-fault.ensures) ∙ sym c.is_some.ensures ∙ c.if-is_some.false)
          (sym c.is_named.ensures ∙ c.if-is_named.false);
      long = c.push.ensures.len ∙ ap (λ n. n + 1) c.loop-i.invariant.long;
      found =
          found_more c.args.keys.now wants c.loop-i.found.items i c.loop-i.invariant.found c.push.new.self.items w c.look_up-seen.result
          c.loop-i.invariant.long c.push.ensures.items (get_or_read wants i w lt c.index-wants-i.is unused_want) c.look_up-seen.ensures;
    }
