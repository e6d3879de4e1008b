-- Names of files that are compared.
use Rattle.std.specs.Prelude.{◌≡◌, ◌≤◌, ◌<◌, ◌-◌, ◌↔◌, ℕ, Bool, true, false, IsTrue, List, [], ◌∷◌, length, take, drop, bytes_eq}
use Rattle.std.proofs.Common.{refl, sym, ap, ◌∙◌, arith, get_or}
use Rattle.std.proofs.lemmas.List.{length-drop}
use Rattle.std.proofs.Math.Seq.{take-length}
use Rattle.std.proofs.lemmas.Slice.Eq.{bytes_eq-Decides}
use Rattle.program_shell.specs.Outputs.{plain_name}

-- two answers are equal that are true together
same_answer : (r s : Bool) → (IsTrue r → IsTrue s) → (IsTrue s → IsTrue r) → r ≡ s
same_answer true s there back = sym (there refl)
same_answer false true there back = back refl
same_answer false false there back = refl

-- what is true where two texts are equal is their comparison
pub decided : (r : Bool) (a b : List ℕ) → (IsTrue r ↔ (a ≡ b)) → r ≡ bytes_eq a b
decided r a b h = same_answer r (bytes_eq a b) (λ t. (bytes_eq-Decides a b).1 (h.0 t)) (λ t. h.1 ((bytes_eq-Decides a b).0 t))

-- all that stands behind the first n
pub rest_whole : (n : ℕ) (l : List ℕ) → take (length l - n) (drop n l) ≡ drop n l
rest_whole n l = ap (λ m. take m (drop n l)) (sym (length-drop n l)) ∙ take-length (drop n l)

-- a name with `./` before it
pub plain_behind : (l : List ℕ) → 2 ≤ length l → get_or l 0 0 ≡ 46 → get_or l 1 0 ≡ 47 →
    plain_name (take (length l - 2) (drop 2 l)) ≡ plain_name l
plain_behind [] h a b = grind arith
plain_behind (x ∷ []) h a b = grind arith
plain_behind (x ∷ (y ∷ l)) h a b = ap plain_name (rest_whole 2 (x ∷ (y ∷ l))) ∙ grind (arith, a, b)

-- a name without
pub plain_short : (l : List ℕ) → length l < 2 → l ≡ plain_name l
plain_short [] h = refl
plain_short (x ∷ []) h = refl
plain_short (x ∷ (y ∷ l)) h = absurd (omega (arith, h))

pub plain_other : (l : List ℕ) → (get_or l 0 0 ≡ 46 → ⊥) → l ≡ plain_name l
plain_other [] h = refl
plain_other (x ∷ []) h = refl
plain_other (x ∷ (y ∷ l)) h = grind (arith, h)

pub plain_dot : (l : List ℕ) → (get_or l 1 0 ≡ 47 → ⊥) → l ≡ plain_name l
plain_dot [] h = refl
plain_dot (x ∷ []) h = refl
plain_dot (x ∷ (y ∷ l)) h = grind (arith, h)
