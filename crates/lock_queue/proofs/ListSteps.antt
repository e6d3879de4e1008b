-- A write at an index of a list.
use Rattle.std.proofs.Common.{◌≡◌, ◌∙◌, ap, ℕ, zero, suc, ◌+◌, ◌<◌, List, [], ◌∷◌, ◌++◌, length, set, take, drop, add-one, refl, arith}

pub set_split : {X : Type 0} (xs : List X) (i : ℕ) (y : X) → i < length xs → set xs i y ≡ take i xs ++ y ∷ drop (i + 1) xs
set_split [] i y lt = absurd (omega arith)
set_split (x ∷ xs) zero y lt = refl
set_split (x ∷ xs) (suc i) y lt = rw (add-one (suc i)) (ap (λ l. x ∷ l) (set_split xs i y (omega arith) ∙ rw (add-one i) refl))
