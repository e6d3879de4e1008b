-- The same words of what is the same.
use Rattle.std.proofs.Common.{◌≡◌, ◌∙◌, ℕ, List, ap, sym}

-- of two numbers
pub same_two : (f : ℕ → ℕ → List ℕ) (a a' b b' : ℕ) → a ≡ a' → b ≡ b' → f a b ≡ f a' b'
same_two f a a' b b' p q = ap (λ x. f x b) p ∙ ap (f a') q

-- of what is another form of it
pub by_case : {A : Type 0} (f : A → List ℕ) (x x' : A) (text : List ℕ) → x ≡ x' → text ≡ f x' → text ≡ f x
by_case f x x' text same is = is ∙ ap f (sym same)
