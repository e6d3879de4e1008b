-- Lemmas on numbers and parts.
use Rattle.std.proofs.Common.{◌≡◌, ◌<◌, ◌≤◌, ◌+◌, ◌-◌, ◌*◌, ◌==◌, ◌&&◌, ℕ, List, [], ◌∷◌, Option, None, Some, length, get_or, drop}
use Rattle.std.proofs.Common.{arith, sym, ap, ◌∙◌, subst, true, false, Bool, refl, nat_le, cond, take, ◌++◌, take-append-drop}
use Rattle.std.proofs.Common.{get_or-take, length-take-le, take_all, eq-eqb, Bor, is_some, not, IsTrue}
use Rattle.std.proofs.lemmas.List.{drop_more, take_rest}
use Rattle.std.proofs.lemmas.List.Splits.{slice_split_at, slice_split_none, length-slice_split}
use Rattle.std.proofs.lemmas.List.Elements.{All-from_get_or}
use Rattle.std.proofs.Math.Nat.{mul-le-mul_left}
use Rattle.std.proofs.lemmas.Bool.{ne_eqb}
use Rattle.std.proofs.lemmas.Bool.Decides.{nat_tests}
use Rattle.std.specs.Option.{option_map_or}
use Rattle.std.specs.List.{All, slice_split}
use Rattle.script_io.specs.Numbers.{value_onto, number, parts}

-- more digits make no smaller number
pub value_onto-grows : (base v : ℕ) (ds : List ℕ) → 0 < base → v ≤ value_onto base v ds
value_onto-grows base v [] h = omega arith
value_onto-grows base v (d ∷ ds) h =
    let step : v ≤ base * v + (d - 48) = omega (arith, mul-le-mul_left v h) in
    let rest = value_onto-grows base (base * v + (d - 48)) ds h in omega arith

-- the last test of a number fails
above_most : (most v : ℕ) (a b : Bool) (x : Option ℕ) → most < v → cond (a && (b && nat_le v most)) x None ≡ None
above_most most v a b x h = grind (arith, nat_tests)

pub number_too_large : (base most v i d : ℕ) (text : List ℕ) → 0 < base → i < length text
    → value_onto base v (drop i text) ≡ value_onto base 0 text → d ≡ get_or text i 0 - 48 → most < base * v + d
    → None ≡ number base most text
unfolding number
number_too_large base most v i d text pos within same digit large =
    let e = drop_more text i 0 within in
    let at : value_onto base (base * v + (get_or text i 0 - 48)) (drop (i + 1) text) ≡ value_onto base 0 text =
    sym (ap (value_onto base v) e) ∙ same in
    let g = value_onto-grows base (base * v + (get_or text i 0 - 48)) (drop (i + 1) text) pos in
    let above : most < value_onto base 0 text = subst (λ n. most < n) at (omega arith) in
    sym (above_most most (value_onto base 0 text) _ _ _ above)

-- ---- parts

-- no separator stands before n
none_before : (separator : ℕ) (text : List ℕ) (n : ℕ) → n ≤ length text → ((k : ℕ) → k < n → get_or text k 0 ≡ separator → ⊥)
    → All (λ b. (b == separator) ≡ false) (take n text)
none_before separator text n within before = All-from_get_or (λ b. (b == separator) ≡ false) (take n text) 0 (λ k h.
    let short : k < n = omega (arith, length-take-le n text within) in
    let e = get_or-take n text k 0 short in
    subst (λ x. (x == separator) ≡ false) (sym e) (ne_eqb _ _ (before k short)))

-- the first part ends at the first separator
pub parts-at : (separator : ℕ) (text : List ℕ) (i : ℕ) → i < length text → ((k : ℕ) → k < i → get_or text k 0 ≡ separator → ⊥) → get_or text i 0 ≡ separator
    → parts separator text ≡ take i text ∷ parts separator (take (length text - (i + 1)) (drop (i + 1) text))
unfolding parts
parts-at separator text i within before here =
    let e : text ≡ take i text ++ (get_or text i 0 ∷ drop (i + 1) text) =
    sym (take-append-drop i text) ∙ ap (λ l. take i text ++ l) (drop_more text i 0 within) in
    let s =
    slice_split_at (λ b. b == separator) (take i text) (get_or text i 0) (drop (i + 1) text)
    (none_before separator text i (omega arith) before) (eq-eqb _ _ here) in
    ap (slice_split (λ b. b == separator)) e ∙ s ∙ ap (λ l. take i text ∷ slice_split (λ b. b == separator) l) (sym (take_rest text (i + 1)))

pub parts-one : (separator : ℕ) (text : List ℕ) → ((k : ℕ) → k < length text → get_or text k 0 ≡ separator → ⊥) → parts separator text ≡ text ∷ []
unfolding parts
parts-one separator text before =
    slice_split_none (λ b. b == separator) text
    (subst (All (λ b. (b == separator) ≡ false)) (take_all (length text) text (omega arith))
    (none_before separator text (length text) (omega arith) before))

pub parts-nonempty : (separator : ℕ) (text : List ℕ) → parts separator text ≡ [] → ⊥
unfolding parts
parts-nonempty separator text e =
    let n = length-slice_split (λ b. b == separator) text in
    let z : length (slice_split (λ b. b == separator) text) ≡ 0 = ap length e in
    omega arith

-- no part is left where nothing is left
pub parts_after-empty : (separator : ℕ) (rest : Option (Bor (List ℕ))) (view : List (List ℕ)) (b : Bool)
    → option_map_or (λ r. parts separator r.now) rest [] ≡ view
    → is_some rest ≡ not b → (IsTrue b → view ≡ []) × (view ≡ [] → IsTrue b)
parts_after-empty separator None view true v e = (λ _. sym v, λ _. refl)
parts_after-empty separator None view false v e = cc
parts_after-empty separator (Some r) view true v e = cc
parts_after-empty separator (Some r) view false v e = (λ h. cc, λ h. absurd (parts-nonempty separator r.now (v ∙ h)))
