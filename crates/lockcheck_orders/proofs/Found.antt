-- What a witness says.
use Rattle.std.proofs.Common.{◌≡◌, ◌<◌, ℕ, List, length, Bool, true, Some, slice_get, sym, ap, subst, ◌∙◌}
use Rattle.std.specs.List.{All}
use Rattle.std.proofs.lemmas.Option.{slice_get_within, get_or_from_slice_get}
use Rattle.state_search.specs.declared.kept.Origin.{Origin}
use Rattle.state_search.specs.declared.witnesses.Witness.{Witness}
use Rattle.state_search.specs.Orders.{Leads, IsNotBehind}
use Rattle.state_search.specs.Searched.{IsWhole, seen_of, way}
use Rattle.state_search.specs.Witnesses.{IsWitness}
use Rattle.state_search.proofs.Keeping.{state_is}
use Rattle.lockcheck_orders.specs.declared.lines.Line.{Line}
use Rattle.lockcheck_orders.specs.declared.verdicts.Verdict.{Verdict}
use Rattle.lockcheck_orders.specs.Orders.{State, first_state}
use Rattle.lockcheck_orders.specs.NormalOrders.{next_normal, IsNormalOrder}
use Rattle.lockcheck_orders.specs.Programs.{jobs_of}
use Rattle.lockcheck_orders.specs.Verdicts.{IsVerdictOf}
use Rattle.lockcheck_orders.proofs.NormalFound.{IsCountFound}

same-some : {X : Type 0} (x y : X) → Some x ≡ Some y → x ≡ y
same-some x y e = cc

pub verdict-some : {S : Type 0} (lines : List Line) (shown : S → State) (holds : State → Bool) (members : State → List ℕ) (xs : List S) (os : List Origin)
    → IsWhole (length (jobs_of lines)) (next_normal lines) (first_state lines) (seen_of shown (first_state lines) xs os) (length xs)
    → (w : Witness) (x : S) → slice_get xs w.position ≡ Some x → w.position < length xs
    → w.moves.items ≡ way (seen_of shown (first_state lines) xs os) w.position w.position
    → IsWitness (length (jobs_of lines)) (next_normal lines) (first_state lines) holds (Some w)
    → (v : Verdict) → v.moves.items ≡ w.moves.items → v.jobs.items ≡ members (shown x)
    → IsVerdictOf (IsNormalOrder lines) holds members (Some v)
verdict-some lines shown holds members xs os whole w x e l m found v moves jobs =
    let at = seen_of shown (first_state lines) xs os in
    let s : State = shown x in
    let here : s ≡ (at w.position).state = state_is shown (first_state lines) xs os w.position x e in
    let path : List ℕ → Type 0 = λ ks. Leads (length (jobs_of lines)) (next_normal lines) (first_state lines) ks s in
    let back : Leads (length (jobs_of lines)) (next_normal lines) (first_state lines) (way at w.position w.position) s = whole.ways_lead w.position l ∙ ap Some (sym here) in
    let leads : Leads (length (jobs_of lines)) (next_normal lines) (first_state lines) w.moves.items s = subst path (sym m) back in
    let same : found.0.0 ≡ s = same-some found.0.0 s (sym found.0.1 ∙ leads) in
    let least : List ℕ → Type 0 = λ ms. (ks : List ℕ) (t : State) → IsNormalOrder lines ks t → holds t ≡ true → IsNotBehind ms ks in
    ((s, subst path (sym moves) leads, ap holds (sym same) ∙ found.0.2, jobs), subst least (sym moves) found.1)

pub count-is : {S : Type 0} (lines : List Line) (shown : S → State) (xs : List S) (os : List Origin)
    → IsWhole (length (jobs_of lines)) (next_normal lines) (first_state lines) (seen_of shown (first_state lines) xs os) (length xs)
    → (n : ℕ) → n ≡ length xs → IsCountFound lines n
count-is lines shown xs os whole n e =
    let at = seen_of shown (first_state lines) xs os in
    let P : ℕ → Type 0 = λ m. IsCountFound lines m in
    subst P (sym e) ((λ i. (at i).state), (λ i l. (way at i i, whole.ways_lead i l)), whole.none_left_out, whole.distinct)

-- what holds of all that is kept holds of a state
pub sound-at : {S : Type 0} (P : S → Type 0) (xs : List S) (i : ℕ) (x : S) → All P xs → slice_get xs i ≡ Some x → P x
sound-at P xs i x h e = subst P (get_or_from_slice_get xs i x x e) (h i x (slice_get_within xs i x e))
