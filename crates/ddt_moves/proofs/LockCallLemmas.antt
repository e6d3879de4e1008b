-- The requests one by one.
use Rattle.std.proofs.Common.{◌≡◌, ◌+◌, ◌∙◌, ℕ, suc, zero, List, [], ◌∷◌, Some, sym, ap, drop, arith, Bool, ◌||◌}
use Rattle.std.specs.Prelude.{slice_get}
use Rattle.std.specs.List.{list_any}

drop_read : {X : Type 0} (xs : List X) (i : ℕ) (x : X) → slice_get xs i ≡ Some x → drop i xs ≡ x ∷ drop (i + 1) xs
drop_read [] i x is = cc
drop_read (y ∷ xs) zero x is = cc
drop_read (y ∷ xs) (suc i) x is =
    let next : suc (i + 1) ≡ suc i + 1 = omega arith in
    drop_read xs i x is ∙ ap (λ n. x ∷ drop n (y ∷ xs)) next

-- whether one of those that are left passes a test, by the first of them
pub any_further : {X : Type 0} (f : X → Bool) (xs : List X) (i : ℕ) (x : X) (b : Bool) → slice_get xs i ≡ Some x → b ≡ f x
    → list_any f (drop i xs) ≡ list_any f xs → b || list_any f (drop (i + 1) xs) ≡ list_any f xs
any_further f xs i x b is known before =
    ap (λ c. c || list_any f (drop (i + 1) xs)) known ∙ ap (list_any f) (sym (drop_read xs i x is)) ∙ before
