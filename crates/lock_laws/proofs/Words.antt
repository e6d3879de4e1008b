-- Between the words of std and those of the proofs.
use Rattle.std.proofs.Common.{◌<◌, subst, ℕ, zero, suc, List, [], ◌∷◌, length, get_or, inl, inr, refl, arith}
use Rattle.std.specs.List.{Contains, AllPairs}
use Rattle.lock_queue.proofs.Lists.{Has, Pairs}

module _ {X : Type 0} where
  has_at : (xs : List X) (k : ℕ) (d : X) → k < length xs → Has xs (get_or xs k d)
  has_at [] k d lt = absurd (omega arith)
  has_at (y ∷ xs) zero d lt = inl refl
  has_at (y ∷ xs) (suc k) d lt = inr (has_at xs k d (omega arith))

  -- `Contains` and `AllPairs` go by positions, `Has` and `Pairs` by recursion
  pub Contains-Has : (xs : List X) (x : X) → Contains xs x → Has xs x
  Contains-Has xs x c = subst (λ u. Has xs u) c.2 (has_at xs c.0 x c.1)

  pub Has-Contains : (xs : List X) (x : X) → Has xs x → Contains xs x
  Has-Contains [] x h = absurd h
  Has-Contains (y ∷ xs) x (inl e) = (zero, omega arith, e)
  Has-Contains (y ∷ xs) x (inr h) = let c = Has-Contains xs x h in (suc c.0, omega (arith, c.1), c.2)

  pub Pairs-AllPairs : (R : X → X → Type 0) (xs : List X) → Pairs R xs → AllPairs R xs
  Pairs-AllPairs R [] p i j d lt in' = absurd (omega arith)
  Pairs-AllPairs R (x ∷ xs) p i zero d lt in' = absurd (omega arith)
  Pairs-AllPairs R (x ∷ xs) p zero (suc j) d lt in' = p.0 (get_or xs j d) (has_at xs j d (omega arith))
  Pairs-AllPairs R (x ∷ xs) p (suc i) (suc j) d lt in' = Pairs-AllPairs R xs p.1 i j d (omega arith) (omega arith)

  pub AllPairs-Pairs : (R : X → X → Type 0) (xs : List X) → AllPairs R xs → Pairs R xs
  AllPairs-Pairs R [] p = tt
  AllPairs-Pairs R (x ∷ xs) p = (
    λ y h.
        let c = Has-Contains xs y h in
        subst (λ u. R x u) c.2 (p 0 (suc c.0) y (omega arith) (omega (arith, c.1))),
    AllPairs-Pairs R xs (λ i j d lt within. p (suc i) (suc j) d (omega arith) (omega arith)),
  )
