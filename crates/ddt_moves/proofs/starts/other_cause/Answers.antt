use Rattle.std.proofs.Common.{◌≡◌, ◌<◌, ◌+◌, ◌∙◌, ap, drop, get_or, length, refl, subst, sym, ℕ, Bool, true, false, List, [], ◌∷◌}
use Rattle.std.proofs.Common.{Option, Some, None}
use Rattle.std.specs.Option.{IfSome}
use Rattle.std.proofs.lemmas.List.{at_drop_more}
use Rattle.machine.specs.Machine.{S}
use Rattle.run_events.specs.declared.facts.Fact.{Fact}
use Rattle.ddt_moves.specs.OtherEnds.{counted_cause, ends_for}
use Rattle.ddt_moves.specs.StopLists.{or_slot}
use Rattle.ddt_moves.specs.Visits.{first_due_at_start, is_due_at_start, slot_if}
use Rattle.ddt_moves.specs.declared.run_stops.StopCause.{StopCause}
use Rattle.ddt_moves.specs.declared.stop_lists.StopList.{StopList}
use Rattle.ddt_moves.specs.declared.visits.Counter.{Counter}
use Rattle.ddt_moves.proofs.starts.other_cause.Goals as goal

counted_ends : (list : StopList) (s other : S) (found : Option StopCause) → s ≡ other
    → IfSome found (λ cause. (facts : List Fact) → ends_for list s facts (Some cause) ≡ true)
    → ends_for list other [] found ≡ true
counted_ends list s other None same counted = refl
counted_ends list s other (Some cause) same counted =
    ap (λ (x : S). ends_for list x [] (Some cause)) (sym same) ∙ counted []

-- a counter that is due is the first of those that are left
due_first : (first last : ℕ) (cs : List Counter) (i : ℕ) (c : Counter) → i < length cs → c ≡ get_or cs i c
    → is_due_at_start first last c ≡ true → first_due_at_start first last (drop i cs) ≡ Some c.slot
due_first first last cs i c within is due =
    at_drop_more (first_due_at_start first last) cs i c within
    ∙ ap (λ (x : Counter). first_due_at_start first last (x ∷ drop (i + 1) cs)) (sym is)
    ∙ ap (λ (b : Bool). or_slot (slot_if b c.slot) (first_due_at_start first last (drop (i + 1) cs))) due

counted_is : (o : Option ℕ) (slot : ℕ) (list : StopList) (s other : S) (cause : Option StopCause) → o ≡ Some slot
    → cause ≡ counted_cause list s slot → s ≡ other → IfSome o (λ n. cause ≡ counted_cause list other n)
counted_is o slot list s other cause there is same =
    subst (λ (x : Option ℕ). IfSome x (λ n. cause ≡ counted_cause list other n)) (sym there)
    (is ∙ ap (λ (x : S). counted_cause list x slot) same)

pub returns-then-ends_start-clause-ends : goal.returns-then-ends_start-clause-ends
returns-then-ends_start-clause-ends c =
    counted_ends c.args.list.now _ _ c.counted_cause.result c.machine-machine.ensures c.counted_cause.ensures.ends

pub returns-then-ends_start-clause-counted : goal.returns-then-ends_start-clause-counted
returns-then-ends_start-clause-counted c =
    let due_in = first_due_at_start c.args.first c.args.last in
    let due = sym c.ends_start.ensures ∙ c.if-ends_start.true in
    counted_is _ c.slot.result c.args.list.now _ _ _
    (ap due_in (sym c.in_ok-counters_of.ensures)
    ∙ ap due_in (sym c.as_slice-counter-items.ensures.value)
    ∙ sym c.loop-counter.invariant
    ∙ due_first c.args.first c.args.last c.as_slice-counter-items.result.now c.loop-counter.counter-index c.counter-item.result
    c.loop-counter-test.true c.counter-item.is due
    ∙ ap (λ (n : ℕ). Some n) (sym c.slot.ensures))
    c.counted_cause.ensures.cause c.machine-machine.ensures
