-- A line as its parts are added.
use Rattle.std.proofs.Common.{◌≡◌, ◌∙◌, ap, ℕ, List, [], ◌∷◌, ◌++◌, append_assoc}

pub line_pushed : (out a b c d new mark statement comment : List ℕ) → a ≡ out ++ mark → b ≡ a ++ 32 ∷ [] → c ≡ b ++ statement → d ≡ c ++ comment
    → new ≡ d ++ 10 ∷ []
    → new ≡ out ++ (mark ++ (32 ∷ (statement ++ (comment ++ 10 ∷ []))))
line_pushed out a b c d new mark statement comment p q r s t =
    t ∙ (ap (λ l. l ++ 10 ∷ []) (s ∙ ap (λ l. l ++ comment) (r ∙ ap (λ l. l ++ statement) (q ∙ ap (λ l. l ++ 32 ∷ []) p)))
    ∙ simp append_assoc)
