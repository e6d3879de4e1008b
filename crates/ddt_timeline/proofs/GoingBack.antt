-- Going back, and forward or once more.
use Rattle.std.proofs.Common.{◌≡◌, ◌<◌, ◌∙◌, ◌+◌, ◌++◌, sym, ap, true, List, [], ◌∷◌, refl, arith, append_assoc, append-nil}
use Rattle.std.proofs.lemmas.Bool.{ltb-true}
use Rattle.machine.specs.Machine.{S}
use Rattle.ddt_timeline.specs.Histories.{everything, is_before_step, the_history}
use Rattle.ddt_timeline.specs.Laws.{GoBackAndDoAgain, GoBackAndForward, OnePlace, SamePastSameMachine}
use Rattle.ddt_timeline.specs.Timelines.{played, steps_in, steps_of}
use Rattle.ddt_timeline.specs.declared.entries.Entry.{Entry}

pub back_and_forward : GoBackAndForward
back_and_forward h back end moved =
    ap (λ (b : S). the_history b (everything back) []) moved.boot
    ∙ ap (λ (l : List Entry). the_history h.boot l []) (moved.list ∙ ap (λ (l : List Entry). h.past ++ l) end ∙ append-nil h.past)
    ∙ ap (λ (l : List Entry). the_history h.boot h.past l) (sym end)

pub back_and_again : GoBackAndDoAgain
back_and_again h back first later end moved ahead =
    ap (λ (l : List Entry). the_history back.boot l [])
    (append_assoc back.past first later ∙ ap (λ (l : List Entry). back.past ++ l) (sym ahead))
    ∙ back_and_forward h back end moved

pub same_machine : SamePastSameMachine
same_machine h other boot past =
    ap (λ (b : S). played other.past b) boot ∙ ap (λ (l : List Entry). played l h.boot) past

same-place : (xs more ys left : List Entry) → xs ++ more ≡ ys ++ left → steps_in xs ≡ steps_in ys → is_before_step more ≡ true → is_before_step left ≡ true
    → xs ≡ ys
same-place [] more [] left e n p q = refl
same-place [] more (y ∷ ys) left e n p q =
    let next : is_before_step (y ∷ (ys ++ left)) ≡ true = ap (λ (l : List Entry). is_before_step l) (sym e) ∙ p in
    let less : 0 < steps_of y = ltb-true 0 (steps_of y) next in
    let none : 0 ≡ steps_of y + steps_in ys = n in
    absurd (omega (arith, less, none))
same-place (x ∷ xs) more [] left e n p q =
    let next : is_before_step (x ∷ (xs ++ more)) ≡ true = ap (λ (l : List Entry). is_before_step l) e ∙ q in
    let less : 0 < steps_of x = ltb-true 0 (steps_of x) next in
    let none : steps_of x + steps_in xs ≡ 0 = n in
    absurd (omega (arith, less, none))
same-place (x ∷ xs) more (y ∷ ys) left e n p q =
    let both : x ∷ (xs ++ more) ≡ y ∷ (ys ++ left) = e in
    let first : x ≡ y = cc in
    let rest : xs ++ more ≡ ys ++ left = cc in
    let steps : steps_of x ≡ steps_of y = ap (λ (k : Entry). steps_of k) first in
    let all : steps_of x + steps_in xs ≡ steps_of y + steps_in ys = n in
    let fewer : steps_in xs ≡ steps_in ys = omega (arith, steps, all) in
    ap (λ (k : Entry). k ∷ xs) first ∙ ap (λ (l : List Entry). y ∷ l) (same-place xs more ys left rest fewer p q)

pub one_place : OnePlace
one_place h other moved steps here there = same-place other.past other.ahead h.past h.ahead moved.list steps there here
