use Rattle.std.proofs.Common.{◌≡◌, ◌∙◌, ◌<◌, arith, refl, length, subst, sym, ap, get_or, take, map}
use Rattle.std.specs.Prelude.{All}
use Rattle.std.proofs.lemmas.Grind.{common_steps}
use Rattle.std.proofs.lemmas.List.{take_all, get_or_default}
use Rattle.std.proofs.lemmas.List.Elements.{All-push}
use Rattle.std.proofs.lemmas.List.Sorted.{All-permutation}
use Rattle.macro_output.specs.declared.reports.FaultKey.{FaultKey}
use Rattle.macro_output.proofs.FaultKeys.{keys-more, faults-more, in-order, IsKey, fault_of}
use Rattle.macro_output.proofs.reports.sorted_faults.Goals.{in-Some+in_ok-push-2, in_default}
use Rattle.macro_output.proofs.reports.sorted_faults.Goals as goal

pub loop-index-init : goal.loop-index-init
loop-index-init c = record {
  faults = λ d. rw c.new-keys.ensures.items refl;
  keys = λ d k e h. absurd (omega (arith, ap length c.new-keys.ensures.items));
  within = λ k e h. absurd (omega (arith, ap length c.new-keys.ensures.items));
  count = rw c.new-keys.ensures.items refl;
}

pub loop-index-preserved : goal.loop-index-preserved
loop-index-preserved c =
    let faults = c.args.faults.now in
    let i = c.loop-index.index in
    record {
      faults = λ d. keys-more faults c.loop-index.keys.items c.push.new.self.items _ i d c.in_ok-push.ensures.items c.loop-index-test.true refl (c.loop-index.invariant.faults d);
      keys = λ d. subst (All (IsKey faults d)) (sym c.in_ok-push.ensures.items) (All-push (IsKey faults d) c.loop-index.keys.items _ (c.loop-index.invariant.keys d)
          (record { line = ap (λ r. r.place.line) (get_or_default faults i _ d c.loop-index-test.true); column = ap (λ r. r.place.column) (get_or_default faults i _ d c.loop-index-test.true) }));
      within = subst (All (λ (key : FaultKey). key.index < length faults)) (sym c.in_ok-push.ensures.items)
          (All-push (λ (key : FaultKey). key.index < length faults) c.loop-index.keys.items _ c.loop-index.invariant.within c.loop-index-test.true);
      count = grind (arith, common_steps);
    }

pub loop-key-preserved : goal.loop-key-preserved
loop-key-preserved c =
    let faults = c.args.faults.now in
    let keys = c.deref-key-items.result.now in
    let i = c.loop-key.key-index in
    let e : FaultKey = record { line = 0; column = 0; index = 0 } in
    let among : All (λ (key : FaultKey). key.index < length faults) c.sort.new.self.items =
    All-permutation (λ (key : FaultKey). key.index < length faults) c.loop-index.keys.items c.sort.new.self.items c.in_ok-sort.ensures.permutation c.loop-index.invariant.within in
    let within : (get_or keys i e).index < length faults =
    subst (All (λ (key : FaultKey). key.index < length faults)) (sym c.deref-key-items.ensures.value) among i e c.loop-key-test.true in
    record {
      faults = λ d. elim c.match-get.branch [
        | in-Some+in_ok-push-2 w ↦ faults-more faults keys c.loop-key.sorted.items c.match-get.sorted.items (get_or keys i e) i d w.in-Some.report.now c.loop-key-test.true
            (get_or_default keys i (get_or keys i e) e c.loop-key-test.true) (w.in-Some.ensures.lookup.1 ∙ get_or_default faults (get_or keys i e).index _ d within)
            (ap (λ v. v.items) w.sorted-is ∙ w.in_ok-push-2.ensures.items) (c.loop-key.invariant.faults d)
        | in_default w ↦ absurd (omega (arith, w.in_default.ensures.lookup.3, within))
      ];
      count = elim c.match-get.branch [
        | in-Some+in_ok-push-2 w ↦ grind (arith, common_steps)
        | in_default w ↦ absurd (omega (arith, w.in_default.ensures.lookup.3, within))
      ];
    }

pub returns : goal.returns
returns c =
    let faults = c.args.faults.now in
    let after = c.sort.new.self.items in
    let same : c.deref-key-items.result.now ≡ after = c.deref-key-items.ensures.value in
    let all : take c.loop-key.key-index c.deref-key-items.result.now ≡ after = take_all c.loop-key.key-index c.deref-key-items.result.now c.loop-key-test.false ∙ same in
    let lens : length c.deref-key-items.result.now ≡ length after = ap length same in
    in-order faults c.loop-index.keys.items after c.loop-key.sorted.items c.in_ok-sort.ensures.permutation c.in_ok-sort.ensures.sorted
    (λ d. c.loop-index.invariant.faults d ∙ take_all c.loop-index.index faults c.loop-index-test.false)
    c.loop-index.invariant.keys (λ d. c.loop-key.invariant.faults d ∙ ap (map (fault_of faults d)) all) (omega arith) (omega (arith, c.in_ok-sort.ensures.len))
