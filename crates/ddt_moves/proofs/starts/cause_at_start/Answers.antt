use Rattle.std.proofs.Common.{◌≡◌, ◌∙◌, ap, sym, ℕ, Option, None, Some}
use Rattle.std.specs.Prelude.{position, Result, Ok, Err, IfOk, IfSome}
use Rattle.std.proofs.lemmas.Option.{none-some}
use Rattle.std.proofs.lemmas.Result.{IfOk-weaker}
use Rattle.machine.specs.Machine.{S}
use Rattle.ddt_moves.specs.Starts.{holds_at_start}
use Rattle.ddt_moves.proofs.starts.cause_at_start.Goals as goal

any_at_none : {T E : Type 0} (r : Result T E) (o : Option ℕ) (Q : T → ℕ → Type 0) → o ≡ None → IfOk r (λ x. IfSome o (Q x))
any_at_none (Ok x) None Q none = tt
any_at_none (Ok x) (Some i) Q none = absurd (none-some i (sym none))
any_at_none (Err e) o Q none = tt

met_none : (found : Option ℕ) (first : S → Option ℕ) (slot : ℕ) (s t : S) → s ≡ t → found ≡ first s → found ≡ Some slot
    → first t ≡ None → ⊥
met_none found first slot s t same is there none = none-some slot (sym none ∙ sym (ap first same) ∙ sym is ∙ there)

pub returns-in-Some-clause-besides : goal.returns-in-Some-clause-besides
returns-in-Some-clause-besides c =
    λ none.
    absurd
    (met_none _ (λ (s : S). position (holds_at_start s c.args.first c.args.last) c.args.list.now.breakpoints) _ _ _
    c.machine.ensures c.first_at_start.ensures c.in-Some.is none)

pub returns-in-Some-clause-counted : goal.returns-in-Some-clause-counted
returns-in-Some-clause-counted c =
    λ none.
    absurd
    (met_none _ (λ (s : S). position (holds_at_start s c.args.first c.args.last) c.args.list.now.breakpoints) _ _ _
    c.machine.ensures c.first_at_start.ensures c.in-Some.is none)

pub returns-in-Some-clause-other : goal.returns-in-Some-clause-other
returns-in-Some-clause-other c =
    λ none.
    absurd
    (met_none _ (λ (s : S). position (holds_at_start s c.args.first c.args.last) c.args.list.now.breakpoints) _ _ _
    c.machine.ensures c.first_at_start.ensures c.in-Some.is none)

pub returns-in-None-clause-breakpoint : goal.returns-in-None-clause-breakpoint
returns-in-None-clause-breakpoint c =
    any_at_none c.other_cause.result _ _
    (sym (ap (λ (s : S). position (holds_at_start s c.args.first c.args.last) c.args.list.now.breakpoints) c.machine.ensures)
    ∙ sym c.first_at_start.ensures
    ∙ c.in-None.is)

pub returns-in-None-clause-besides : goal.returns-in-None-clause-besides
returns-in-None-clause-besides c = IfOk-weaker c.other_cause.result _ _ (λ cause ends none. ends) c.other_cause.ensures.ends

pub returns-in-None-clause-counted : goal.returns-in-None-clause-counted
returns-in-None-clause-counted c = IfOk-weaker c.other_cause.result _ _ (λ cause is none. is) c.other_cause.ensures.counted

pub returns-in-None-clause-other : goal.returns-in-None-clause-other
returns-in-None-clause-other c = IfOk-weaker c.other_cause.result _ _ (λ cause no none. no) c.other_cause.ensures.other
