-- Lemmas on texts.
use Rattle.std.proofs.Common.{◌≡◌, ◌<◌, ◌+◌, ◌++◌, ◌∙◌, ℕ, List, length, take, refl, sym, ap, arith, slice_index_or, append_assoc}
use Rattle.std.proofs.lemmas.Grind.{common_steps}
use Rattle.std.specs.List.{flat_map}

-- what is made of one more is added
pub more_made : {X : Type 0} (f : X → List ℕ) (xs : List X) (i : ℕ) (d : X) (old sofar new : List ℕ) → i < length xs
    → sofar ≡ old ++ flat_map f (take i xs) → new ≡ sofar ++ f (slice_index_or xs i d) → new ≡ old ++ flat_map f (take (i + 1) xs)
more_made f xs i d old sofar new within before here = grind (arith, common_steps)

-- one more piece is added
pub added : (out x new a b : List ℕ) → x ≡ out ++ a → new ≡ x ++ b → new ≡ out ++ (a ++ b)
added out x new a b p q = q ∙ ap (λ l. l ++ b) p ∙ append_assoc out a b

-- five pieces are added, the last two at once
pub five_pieces : (out x y z new a b c d e : List ℕ) → x ≡ out ++ a → y ≡ x ++ b → z ≡ y ++ c → new ≡ z ++ (d ++ e)
    → new ≡ out ++ ((((a ++ b) ++ c) ++ d) ++ e)
five_pieces out x y z new a b c d e p q r s =
    added out (z ++ d) new (((a ++ b) ++ c) ++ d) e
    (added out z (z ++ d) ((a ++ b) ++ c) d (added out y z (a ++ b) c (added out x y a b p q) r) refl)
    (s ∙ sym (append_assoc z d e))

-- six pieces are added
pub six_pieces : (out x y z w v new a b c d e f : List ℕ) → x ≡ out ++ a → y ≡ x ++ b → z ≡ y ++ c → w ≡ z ++ d → v ≡ w ++ e → new ≡ v ++ f
    → new ≡ out ++ (((((a ++ b) ++ c) ++ d) ++ e) ++ f)
six_pieces out x y z w v new a b c d e f p q r s t u =
    added out v new ((((a ++ b) ++ c) ++ d) ++ e) f
    (added out w v (((a ++ b) ++ c) ++ d) e (added out z w ((a ++ b) ++ c) d (added out y z (a ++ b) c (added out x y a b p q) r) s) t)
    u
