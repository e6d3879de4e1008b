-- Counts and registers, one further.
use Rattle.std.proofs.Common.{◌≡◌, ◌<◌, ◌+◌, ◌-◌, ◌++◌, suc, ◌∙◌, ℕ, Bool, true, false, cond, List, length, take, get_or, ap, sym, append_assoc, arith}
use Rattle.std.specs.List.{flat_map, range_with_len}
use Rattle.std.specs.Prelude.{Option, Some, count_by, slice_get}
use Rattle.std.proofs.lemmas.List.Sums.{count_by_more_no, count_by_more_yes}
use Rattle.std.proofs.lemmas.Option.{get_or_from_slice_get, slice_get_within}

count_by_one : {X : Type 0} (p : X → Bool) (xs : List X) (i : ℕ) (x : X) (b : Bool) → i < length xs → p (get_or xs i x) ≡ b
    → count_by p (take (i + 1) xs) ≡ count_by p (take i xs) + cond b 1 0
count_by_one p xs i x true within is = count_by_more_yes p xs i x within is
count_by_one p xs i x false within is = omega (arith, count_by_more_no p xs i x within is)

-- with the element at a position more
pub count_by_further : {X : Type 0} (p : X → Bool) (xs : List X) (i : ℕ) (x : X) → slice_get xs i ≡ Some x
    → count_by p (take (i + 1) xs) ≡ count_by p (take i xs) + cond (p x) 1 0
count_by_further p xs i x is =
    count_by_one p xs i x (p x) (slice_get_within xs i x is) (ap p (get_or_from_slice_get xs i x x is))

-- numbers that are written one after the other, up to 16, a number further
pub registers_further : (piece : ℕ → List ℕ) (i : ℕ) (sofar new all : List ℕ)
    → i < 16 → new ≡ sofar ++ piece i → sofar ++ flat_map piece (range_with_len i (16 - i)) ≡ all
    → new ++ flat_map piece (range_with_len (i + 1) (16 - (i + 1))) ≡ all
registers_further piece i sofar new all within added before =
    let left : 16 - i ≡ suc (16 - (i + 1)) = omega arith in
    let later : List ℕ = flat_map piece (range_with_len (i + 1) (16 - (i + 1))) in
    ap (λ l. l ++ later) added ∙ append_assoc sofar (piece i) later
    ∙ ap (λ n. sofar ++ flat_map piece (range_with_len i n)) (sym left)
    ∙ before
