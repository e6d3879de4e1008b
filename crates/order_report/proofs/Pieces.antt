-- Texts that are put together piece by piece.
use Rattle.std.proofs.Common.{◌≡◌, ◌++◌, ◌∙◌, ℕ, List, ap, append_assoc}

-- one more piece is added
pub added : (out x new a b : List ℕ) → x ≡ out ++ a → new ≡ x ++ b → new ≡ out ++ (a ++ b)
added out x new a b p q = q ∙ ap (λ l. l ++ b) p ∙ append_assoc out a b
