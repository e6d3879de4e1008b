-- What stands at a position of a list, before it and behind it.
use Rattle.std.proofs.Common.{◌≡◌, ◌≤◌, ◌<◌, ◌+◌, ◌-◌, ◌∙◌, ap, subst, ℕ, zero, suc, List, [], ◌∷◌, ◌++◌, length, drop_of_length-le, take, drop, get_or, replicate, slice_get, Some, None, inl, inr, refl, arith}
use Rattle.std.specs.List.{remove}
use Rattle.std.proofs.lemmas.List.{get_or_past, get_or-replicate, length-replicate, replicate_more, take-append-drop, append-nil}
use Rattle.std.proofs.lemmas.Grind.{common_steps}
use Rattle.std.proofs.lemmas.Option.{slice_get_within, get_or_from_slice_get}
use Rattle.lock_queue.proofs.Lists.{Has, Has-left, Sub, nil, skip, keep, Sub-refl}

module _ {X : Type 0} where
  pub slice_get_split : (a b : List X) (x : X) → slice_get (a ++ x ∷ b) (length a) ≡ Some x
  slice_get_split [] b x = refl
  slice_get_split (y ∷ a) b x = slice_get_split a b x

  -- the element at a position, with what is before and behind it
  pub split_at : (xs : List X) (i : ℕ) (x : X) → slice_get xs i ≡ Some x → xs ≡ take i xs ++ x ∷ drop (suc i) xs
  split_at [] i x e = cc
  split_at (y ∷ xs) zero x e = cc
  split_at (y ∷ xs) (suc i) x e = ap (λ l. y ∷ l) (split_at xs i x e)

  pub length_take : (xs : List X) (i : ℕ) (x : X) → slice_get xs i ≡ Some x → length (take i xs) ≡ i
  length_take xs i x e = grind (arith, common_steps, slice_get_within xs i x e)

  pub past_none : (xs : List X) (i : ℕ) → slice_get xs i ≡ None → length xs ≤ i
  past_none [] i e = omega arith
  past_none (y ∷ xs) zero e = cc
  past_none (y ∷ xs) (suc i) e = omega (arith, past_none xs i e)

  pub found_within : (xs : List X) (i : ℕ) → i < length xs → (x : X) × (slice_get xs i ≡ Some x)
  found_within [] i lt = absurd (omega arith)
  found_within (y ∷ xs) zero lt = (y, refl)
  found_within (y ∷ xs) (suc i) lt = found_within xs i (omega arith)

  pub found_Has : (xs : List X) (i : ℕ) (x : X) → slice_get xs i ≡ Some x → Has xs x
  found_Has [] i x e = cc
  found_Has (y ∷ xs) zero x e = inl (cc)
  found_Has (y ∷ xs) (suc i) x e = inr (found_Has xs i x e)

  pub take_Has : (n : ℕ) (xs : List X) (x : X) → Has (take n xs) x → Has xs x
  take_Has n xs x h = subst (λ l. Has l x) (take-append-drop n xs) (Has-left (take n xs) (drop n xs) x h)

  -- a list without the element at a position
  pub Sub-remove : (xs : List X) (i : ℕ) → Sub (remove xs i) xs
  Sub-remove [] zero = nil
  Sub-remove [] (suc i) = nil
  Sub-remove (x ∷ xs) zero = skip x (Sub-refl xs)
  Sub-remove (x ∷ xs) (suc i) = keep x (Sub-remove xs i)

  pub take-remove_within : (xs : List X) (n i : ℕ) → i ≤ n → take n (remove xs i) ≡ remove (take (suc n) xs) i
  take-remove_within [] n i le = grind (arith, common_steps)
  take-remove_within (x ∷ xs) n zero le = refl
  take-remove_within (x ∷ xs) zero (suc i) le = absurd (omega arith)
  take-remove_within (x ∷ xs) (suc n) (suc i) le = ap (λ l. x ∷ l) (take-remove_within xs n i (omega arith))

  pub take-remove_past : (xs : List X) (n i : ℕ) → n ≤ i → take n (remove xs i) ≡ take n xs
  take-remove_past xs zero i le = refl
  take-remove_past [] (suc n) zero le = refl
  take-remove_past [] (suc n) (suc i) le = refl
  take-remove_past (x ∷ xs) (suc n) zero le = absurd (omega arith)
  take-remove_past (x ∷ xs) (suc n) (suc i) le = ap (λ l. x ∷ l) (take-remove_past xs n i (omega arith))

  pub remove_last : (xs : List X) (k : ℕ) → k ≡ length xs - 1 → k < length xs → remove xs k ≡ take (length xs - 1) xs
  remove_last xs k is lt =
      let le : length xs ≤ suc k = omega (arith, is, lt) in
      let past : drop (suc k) xs ≡ [] = drop_of_length-le xs le in
      ap (λ l. take k xs ++ l) past ∙ append-nil (take k xs) ∙ ap (λ n. take n xs) is

  pub remove_split : (a b : List X) (x : X) → remove (a ++ x ∷ b) (length a) ≡ a ++ b
  remove_split [] b x = refl
  remove_split (y ∷ a) b x = ap (λ l. y ∷ l) (remove_split a b x)

  -- one more element of the front
  pub take_next : (xs : List X) (n : ℕ) (x : X) → slice_get xs n ≡ Some x → take (n + 1) xs ≡ take n xs ++ x ∷ []
  take_next xs n x e = grind (arith, common_steps, slice_get_within xs n x e, get_or_from_slice_get xs n x x e)

  pub found_in_front : (xs : List X) (n i : ℕ) (x : X) → i < n → slice_get xs i ≡ Some x → slice_get (take n xs) i ≡ Some x
  found_in_front [] n i x lt e = cc
  found_in_front (y ∷ xs) zero i x lt e = absurd (omega arith)
  found_in_front (y ∷ xs) (suc n) zero x lt e = e
  found_in_front (y ∷ xs) (suc n) (suc i) x lt e = found_in_front xs n i x (omega arith) e

  -- a list of one element over and over
  pub repeated_more : (n : ℕ) (x y : X) (xs ys : List X) → ys ≡ xs ++ y ∷ [] → xs ≡ replicate n x → y ≡ x → ys ≡ replicate (n + 1) x
  repeated_more n x y xs ys is before same =
      is ∙ ap (λ l. l ++ y ∷ []) before ∙ ap (λ z. replicate n x ++ z ∷ []) same ∙ replicate_more n x

  pub repeated_at : (n i : ℕ) (x : X) → get_or (replicate n x) i x ≡ x
  repeated_at n i x = grind (arith, common_steps, get_or-replicate n i x x, get_or_past (replicate n x) i x, length-replicate n x)
