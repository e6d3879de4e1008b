-- Lists with an element for each number, filled one after the other.
use Rattle.std.proofs.Common.{◌≡◌, ◌≤◌, ◌<◌, ◌∙◌, sym, ap, subst, ℕ, suc, ◌+◌, List, map, take, length, inl, inr, arith, get_or, slice_set}
use Rattle.std.proofs.lemmas.Bool.{cases_eq}
use Rattle.std.proofs.lemmas.List.{get_or-map, get_or-set_other, get_or-set_same, get_or-take, length-map, length-set, length-take-le, take_all}
use Rattle.word36.specs.declared.sizes.TheConstants.{JOBS}
use Rattle.job_orders.specs.Views.{padded}
use Rattle.job_orders.specs.Framing.{padded-in, padded-is, padded-length, padded-out}

module _ {T X : Type 0} (z : T) (f : X → T) (d : X) (xs : List X) (few : length xs ≤ JOBS) where
  so-many : (k : ℕ) → k ≤ length xs → length (map f (take k xs)) ≡ k
  so-many k low = length-map (take k xs) f ∙ length-take-le k xs low

  at-taken : (k i : ℕ) → i < k → k ≤ length xs → get_or (map f (take k xs)) i z ≡ f (get_or xs i d)
  at-taken k i low high =
      let long : length (take k xs) ≡ k = length-take-le k xs high in
      get_or-map f (take k xs) i d z (omega (arith, low, long)) ∙ ap f (get_or-take k xs i d low)

  pub padded-more : (k : ℕ) → k < length xs → slice_set (padded z (map f (take k xs))) (suc k) (f (get_or xs k d)) ≡ padded z (map f (take (suc k) xs))
  padded-more k low =
      let before : length (map f (take k xs)) ≡ k = so-many k (omega (arith, low)) in
      let after : length (map f (take (suc k) xs)) ≡ suc k = so-many (suc k) low in
      let old : List T = padded z (map f (take k xs)) in
      let long : length old ≡ JOBS + 1 = padded-length z (map f (take k xs)) (omega (arith, before, low, few)) in
      let y : T = f (get_or xs k d) in
      sym (padded-is z (map f (take (suc k) xs)) (slice_set old (suc k) y) (omega (arith, after, low, few)) (length-set old (suc k) y ∙ long)
      (λ i below. elim (cases_eq i k) [
        | inl is ↦
            let own : get_or (slice_set old (suc k) y) (suc k) z ≡ y = get_or-set_same old (suc k) y z (omega (arith, long, low, few)) in
            subst (λ m. get_or (map f (take (suc k) xs)) m z ≡ get_or (slice_set old (suc k) y) (suc m) z) (sym is)
            (at-taken (suc k) k (omega arith) low ∙ sym own)
        | inr ne ↦
            let less : i < k = omega (arith, below, after, ne) in
            at-taken (suc k) i (omega (arith, less)) low ∙ sym (at-taken k i less (omega (arith, low)))
            ∙ sym (padded-in z (map f (take k xs)) i (omega (arith, less, before)))
            ∙ sym (get_or-set_other old (suc k) (suc i) y z (λ e. ne (omega (arith, e))))
      ])
      (λ m out. get_or-set_other old (suc k) m y z (λ e. elim out [ inl none ↦ omega (arith, none, e) | inr above ↦ omega (arith, above, e, after) ])
      ∙ padded-out z (map f (take k xs)) m (elim out [ inl none ↦ inl none | inr above ↦ inr (omega (arith, above, before, after)) ])))

  pub padded-all : (k : ℕ) → length xs ≡ k → padded z (map f (take k xs)) ≡ padded z (map f xs)
  padded-all k is = ap (λ l. padded z (map f l)) (take_all k xs (omega (arith, is)))

  -- the next one
  pub padded-next : (k : ℕ) (old : List T) (y : T) → k < length xs → old ≡ padded z (map f (take k xs)) → y ≡ f (get_or xs k d)
      → slice_set old (k + 1) y ≡ padded z (map f (take (k + 1) xs))
  padded-next k old y low before is =
      let one : k + 1 ≡ suc k = omega arith in
      ap (λ l. slice_set l (k + 1) y) before ∙ ap (slice_set (padded z (map f (take k xs))) (k + 1)) is
      ∙ ap (λ m. slice_set (padded z (map f (take k xs))) m (f (get_or xs k d))) one ∙ padded-more k low
      ∙ ap (λ m. padded z (map f (take m xs))) (sym one)
