-- Lists whose members are alike are the same.
use Rattle.std.proofs.Common.{◌≡◌, ◌&&◌, ℕ, Bool, true, List, [], ◌∷◌, refl, ap, ◌∙◌}
use Rattle.std.specs.Cmp.Lexicographic.{pointwise}
use Rattle.std.proofs.lemmas.Bool.{and_parts, eqb-true}
use Rattle.std.specs.Prelude.{nat_eq}

pub same_lists : {A : Type 0} (alike : A → A → Bool) → ((x y : A) → alike x y ≡ true → x ≡ y) → (xs ys : List A)
    → pointwise alike xs ys ≡ true → xs ≡ ys
same_lists alike h [] [] e = refl
same_lists alike h [] (y ∷ ys) e = absurd (cc)
same_lists alike h (x ∷ xs) [] e = absurd (cc)
same_lists alike h (x ∷ xs) (y ∷ ys) e =
    let both = and_parts (alike x y) (pointwise alike xs ys) e in
    ap (λ z. z ∷ xs) (h x y both.0) ∙ ap (λ zs. y ∷ zs) (same_lists alike h xs ys both.1)

pub same_pairs : (x y : ℕ × ℕ) → (nat_eq x.0 y.0 && nat_eq x.1 y.1) ≡ true → x ≡ y
same_pairs (a, b) (c, d) e =
    let both = and_parts (nat_eq a c) (nat_eq b d) e in
    ap (λ n. (n, b)) (eqb-true a c both.0) ∙ ap (λ n. (c, n)) (eqb-true b d both.1)
