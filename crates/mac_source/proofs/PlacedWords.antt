-- Words of 36 bits at rising addresses, by recursion.
use Rattle.std.proofs.Common.{ℕ, suc, ◌+◌, ◌^◌, ◌<◌, ◌≤◌, List, [], ◌∷◌, arith}
use Rattle.image_files.specs.Images.{Rises, WordsFit}

abbrev pub AreWords : ℕ → List (ℕ × ℕ) → Type 0
AreWords least [] = Unit {0}
AreWords least (x ∷ xs) = (least ≤ x.0) × (x.0 < 2 ^ 18) × (x.1 < 2 ^ 36) × AreWords (x.0 + 1) xs

pub are_words : (least : ℕ) (xs : List (ℕ × ℕ)) → Rises least xs → WordsFit xs → AreWords least xs
are_words least [] r fit = tt
are_words least (x ∷ xs) r fit =
    (r.0, r.1, fit 0 x (omega arith), are_words (x.0 + 1) xs r.2 (λ k d h. fit (suc k) d (omega arith)))
