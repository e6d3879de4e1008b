-- Lists: their elements, their pairs, and lists with some elements left out.
use Rattle.std.proofs.Common.{◌≡◌, ◌≤◌, ◌<◌, ◌+◌, ◌&&◌, ◌∙◌, sym, ap, subst, ℕ, zero, suc, add-one, drop, get_or, Bool, true, false, cond}
use Rattle.std.proofs.Common.{List, [], ◌∷◌, ◌++◌, length, map, filter, flat_map, sum_by, ◌⊎◌, inl, inr, refl, arith}
use Rattle.std.specs.List.{list_all, list_any}
use Rattle.std.proofs.lemmas.Grind.{common_steps}

-- the list has the element
abbrev pub Has : {X : Type 0} → List X → X → Type 0
Has [] x = ⊥
Has (y ∷ ys) x = (y ≡ x) ⊎ Has ys x

-- R holds of each element and each later one
abbrev pub Pairs : {X : Type 0} → (X → X → Type 0) → List X → Type 0
Pairs R [] = Unit {0}
Pairs {X} R (x ∷ xs) = ((y : X) → Has xs y → R x y) × Pairs R xs

-- the first list is the second with some elements left out
pub data Sub {X : Type 0} : List X → List X → Type 0 where
  nil : Sub [] []
  skip : {xs ys : List X} (y : X) → Sub xs ys → Sub xs (y ∷ ys)
  keep : {xs ys : List X} (x : X) → Sub xs ys → Sub (x ∷ xs) (x ∷ ys)

module _ {X : Type 0} where
  pub Has-left : (xs ys : List X) (x : X) → Has xs x → Has (xs ++ ys) x
  Has-left [] ys x h = absurd h
  Has-left (z ∷ xs) ys x (inl e) = inl e
  Has-left (z ∷ xs) ys x (inr h) = inr (Has-left xs ys x h)

  pub Has-right : (xs ys : List X) (x : X) → Has ys x → Has (xs ++ ys) x
  Has-right [] ys x h = h
  Has-right (z ∷ xs) ys x h = inr (Has-right xs ys x h)

  pub Has-cases : (xs ys : List X) (x : X) → Has (xs ++ ys) x → Has xs x ⊎ Has ys x
  Has-cases [] ys x h = inr h
  Has-cases (z ∷ xs) ys x (inl e) = inl (inl e)
  Has-cases (z ∷ xs) ys x (inr h) = elim (Has-cases xs ys x h) [ inl k ↦ inl (inr k) | inr k ↦ inr k ]

  pub Has-filter : (p : X → Bool) (xs : List X) (x : X) → p x ≡ true → Has xs x → Has (filter p xs) x
  Has-filter p [] x t h = absurd h
  Has-filter p (z ∷ xs) x t (inl e) = rw (ap p e ∙ t) (inl e)
  Has-filter p (z ∷ xs) x t (inr h) =
      let rest = Has-filter p xs x t h in
      elim (p z) as (λ b. Has (cond b (z ∷ filter p xs) (filter p xs)) x) [ true ↦ inr rest | false ↦ rest ]

  by_cond : (P : List X → Type 0) (b : Bool) (xs ys : List X) → (b ≡ true → P xs) → (b ≡ false → P ys)
      → P (cond b xs ys)
  by_cond P true xs ys t f = t refl
  by_cond P false xs ys t f = f refl

  -- what a filter keeps passes it and was there
  pub filter-Has : (p : X → Bool) (xs : List X) (x : X) → Has (filter p xs) x → (p x ≡ true) × Has xs x
  filter-Has p [] x h = absurd h
  filter-Has p (z ∷ xs) x h =
      by_cond (λ l. Has l x → (p x ≡ true) × Has (z ∷ xs) x) (p z) (z ∷ filter p xs) (filter p xs)
      (λ t k. elim k [ inl e ↦ (ap p (sym e) ∙ t, inl e) | inr k ↦ let rest = filter-Has p xs x k in (rest.0, inr rest.1) ])
      (λ f k. let rest = filter-Has p xs x k in (rest.0, inr rest.1)) h

  pub list_all-Has : (p : X → Bool) (xs : List X) (x : X) → list_all p xs ≡ true → Has xs x → p x ≡ true
  list_all-Has p [] x t h = absurd h
  list_all-Has p (z ∷ xs) x t (inl e) = grind (arith, common_steps, ap p e)
  list_all-Has p (z ∷ xs) x t (inr h) =
      let rest : list_all p xs ≡ true = grind (arith, common_steps) in list_all-Has p xs x rest h

  -- an element that passes is left out of what is asked of those that a filter keeps
  pub all-passed : (p q : X → Bool) (xs : List X) (i : ℕ) (x : X) → i < length xs → x ≡ get_or xs i x → p x ≡ true
      → list_all p (filter q (drop i xs)) ≡ list_all p (filter q (drop (i + 1) xs))
  all-passed p q [] i x lt is t = absurd (omega arith)
  all-passed p q (y ∷ ys) zero x lt is t = go (q y)
    where
      go : (b : Bool) → list_all p (cond b (y ∷ filter q ys) (filter q ys)) ≡ list_all p (filter q ys)
      go true = ap (λ b. b && list_all p (filter q ys)) (ap p (sym is) ∙ t)
      go false = refl
  all-passed p q (y ∷ ys) (suc i) x lt is t =
      rw (add-one (suc i)) (all-passed p q ys i x (omega arith) is t ∙ rw (add-one i) refl)

  -- so is one that the filter does not keep
  pub all-skipped : (p q : X → Bool) (xs : List X) (i : ℕ) (x : X) → i < length xs → x ≡ get_or xs i x → q x ≡ false
      → list_all p (filter q (drop i xs)) ≡ list_all p (filter q (drop (i + 1) xs))
  all-skipped p q [] i x lt is t = absurd (omega arith)
  all-skipped p q (y ∷ ys) zero x lt is t =
      ap (λ b. list_all p (cond b (y ∷ filter q ys) (filter q ys))) (ap q (sym is) ∙ t)
  all-skipped p q (y ∷ ys) (suc i) x lt is t =
      rw (add-one (suc i)) (all-skipped p q ys i x (omega arith) is t ∙ rw (add-one i) refl)

  pub list_all-each : (p : X → Bool) (xs : List X) → ((x : X) → Has xs x → p x ≡ true) → list_all p xs ≡ true
  list_all-each p [] f = refl
  list_all-each p (z ∷ xs) f =
      let first = f z (inl refl) in
      let rest : list_all p xs ≡ true = list_all-each p xs (λ x h. f x (inr h)) in
      rw (first, rest) refl

  -- an element that does not pass
  pub list_all-fails : (p : X → Bool) (xs : List X) → list_all p xs ≡ false → (x : X) × Has xs x × (p x ≡ false)
  list_all-fails p [] f = cc
  list_all-fails p (z ∷ xs) f = go (list_all-fails p xs) (p z) refl
    where
      go : (list_all p xs ≡ false → (x : X) × Has xs x × (p x ≡ false)) → (b : Bool) → p z ≡ b
          → (x : X) × Has (z ∷ xs) x × (p x ≡ false)
      go later false e = (z, inl refl, e)
      go later true e =
          let rest : list_all p xs ≡ false = grind (arith, common_steps) in
          let found = later rest in
          (found.0, inr found.1, found.2)

  pub list_any-Has : (p : X → Bool) (xs : List X) (x : X) → p x ≡ true → Has xs x → list_any p xs ≡ true
  list_any-Has p [] x t h = absurd h
  list_any-Has p (z ∷ xs) x t (inl e) = rw (ap p e ∙ t) refl
  list_any-Has p (z ∷ xs) x t (inr h) =
      let rest : list_any p xs ≡ true = list_any-Has p xs x t h in grind (arith, common_steps)

  pub list_any-none : (p : X → Bool) (xs : List X) (x : X) → list_any p xs ≡ false → Has xs x → p x ≡ false
  list_any-none p [] x f h = absurd h
  list_any-none p (z ∷ xs) x f (inl e) = grind (arith, common_steps, ap p e)
  list_any-none p (z ∷ xs) x f (inr h) =
      let rest : list_any p xs ≡ false = grind (arith, common_steps) in list_any-none p xs x rest h

  pub list_any-found : (p : X → Bool) (xs : List X) → list_any p xs ≡ true → (x : X) × Has xs x × (p x ≡ true)
  list_any-found p [] t = cc
  list_any-found p (z ∷ xs) t = go (list_any-found p xs) (p z) refl
    where
      go : (list_any p xs ≡ true → (x : X) × Has xs x × (p x ≡ true)) → (b : Bool) → p z ≡ b
          → (x : X) × Has (z ∷ xs) x × (p x ≡ true)
      go later true e = (z, inl refl, e)
      go later false e =
          let rest : list_any p xs ≡ true = grind (arith, common_steps) in
          let found = later rest in
          (found.0, inr found.1, found.2)

  pub Pairs-append : (R : X → X → Type 0) (xs ys : List X) → Pairs R xs → Pairs R ys
      → ((x y : X) → Has xs x → Has ys y → R x y)
      → Pairs R (xs ++ ys)
  Pairs-append R [] ys p q c = q
  Pairs-append R (x ∷ xs) ys p q c = (
    λ y h. elim (Has-cases xs ys y h) [ inl k ↦ p.0 y k | inr k ↦ c x y (inl refl) k ],
    Pairs-append R xs ys p.1 q (λ a b h k. c a b (inr h) k),
  )

  pub Pairs-left : (R : X → X → Type 0) (xs ys : List X) → Pairs R (xs ++ ys) → Pairs R xs
  Pairs-left R [] ys p = tt
  Pairs-left R (x ∷ xs) ys p = (λ y h. p.0 y (Has-left xs ys y h), Pairs-left R xs ys p.1)

  pub Pairs-right : (R : X → X → Type 0) (xs ys : List X) → Pairs R (xs ++ ys) → Pairs R ys
  Pairs-right R [] ys p = p
  Pairs-right R (x ∷ xs) ys p = Pairs-right R xs ys p.1

  pub Pairs-across : (R : X → X → Type 0) (xs ys : List X) → Pairs R (xs ++ ys) → (x y : X) → Has xs x → Has ys y
      → R x y
  Pairs-across R [] ys p x y h k = absurd h
  Pairs-across R (z ∷ xs) ys p x y (inl e) k = subst (λ u. R u y) e (p.0 y (Has-right xs ys y k))
  Pairs-across R (z ∷ xs) ys p x y (inr h) k = Pairs-across R xs ys p.1 x y h k

  -- a relation that goes both ways holds of any two
  pub Pairs-both : (R : X → X → Type 0) → ((x : X) → R x x) → ((x y : X) → R x y → R y x) → (xs : List X) → Pairs R xs
      → (x y : X) → Has xs x → Has xs y → R x y
  Pairs-both R same swap [] p x y h k = absurd h
  Pairs-both R same swap (z ∷ xs) p x y (inl e) (inl f) = subst (λ u. R u y) e (subst (λ u. R z u) f (same z))
  Pairs-both R same swap (z ∷ xs) p x y (inl e) (inr k) = subst (λ u. R u y) e (p.0 y k)
  Pairs-both R same swap (z ∷ xs) p x y (inr h) (inl f) = subst (λ u. R x u) f (swap z x (p.0 x h))
  Pairs-both R same swap (z ∷ xs) p x y (inr h) (inr k) = Pairs-both R same swap xs p.1 x y h k

  pub Pairs-weaker : (R S : X → X → Type 0) → ((x y : X) → R x y → S x y) → (xs : List X) → Pairs R xs → Pairs S xs
  Pairs-weaker R S f [] p = tt
  Pairs-weaker R S f (x ∷ xs) p = (λ y h. f x y (p.0 y h), Pairs-weaker R S f xs p.1)

  pub Pairs-joined : (R S T Q : X → X → Type 0) → ((x y : X) → R x y → S x y → T x y → Q x y) → (xs : List X)
      → Pairs R xs → Pairs S xs → Pairs T xs
      → Pairs Q xs
  Pairs-joined R S T Q f [] p q r = tt
  Pairs-joined R S T Q f (x ∷ xs) p q r = (λ y h. f x y (p.0 y h) (q.0 y h) (r.0 y h), Pairs-joined R S T Q f xs p.1 q.1 r.1)

  pub Sub-Has : {xs ys : List X} (x : X) → Sub xs ys → Has xs x → Has ys x
  Sub-Has x nil h = h
  Sub-Has x (skip y s) h = inr (Sub-Has x s h)
  Sub-Has x (keep z s) (inl e) = inl e
  Sub-Has x (keep z s) (inr h) = inr (Sub-Has x s h)

  pub Sub-refl : (xs : List X) → Sub xs xs
  Sub-refl [] = nil
  Sub-refl (x ∷ xs) = keep x (Sub-refl xs)

  pub Sub-none : (xs : List X) → Sub [] xs
  Sub-none [] = nil
  Sub-none (x ∷ xs) = skip x (Sub-none xs)

  pub Sub-append : {xs ys us vs : List X} → Sub xs ys → Sub us vs → Sub (xs ++ us) (ys ++ vs)
  Sub-append nil t = t
  Sub-append (skip y s) t = skip y (Sub-append s t)
  Sub-append (keep y s) t = keep y (Sub-append s t)

  pub Sub-filter : (p : X → Bool) (xs : List X) → Sub (filter p xs) xs
  Sub-filter p [] = nil
  Sub-filter p (x ∷ xs) =
      by_cond (λ l. Sub l (x ∷ xs)) (p x) (x ∷ filter p xs) (filter p xs) (λ t. keep x (Sub-filter p xs)) (λ f. skip x (Sub-filter p xs))

  pub Sub-filters : (p : X → Bool) {xs ys : List X} → Sub xs ys → Sub (filter p xs) (filter p ys)
  Sub-filters p nil = nil
  Sub-filters p (skip {xs} {ys} y s) =
      by_cond (λ l. Sub (filter p xs) l) (p y) (y ∷ filter p ys) (filter p ys) (λ t. skip y (Sub-filters p s)) (λ f. Sub-filters p s)
  Sub-filters p (keep {xs} {ys} x s) =
      elim (p x) as (λ b. Sub (cond b (x ∷ filter p xs) (filter p xs)) (cond b (x ∷ filter p ys) (filter p ys))) [
        | true ↦ keep x (Sub-filters p s)
        | false ↦ Sub-filters p s
      ]

  pub Sub-Pairs : (R : X → X → Type 0) {xs ys : List X} → Sub xs ys → Pairs R ys → Pairs R xs
  Sub-Pairs R nil p = p
  Sub-Pairs R (skip y s) p = Sub-Pairs R s p.1
  Sub-Pairs R (keep x s) p = (λ y h. p.0 y (Sub-Has y s h), Sub-Pairs R s p.1)

  pub Sub-length : {xs ys : List X} → Sub xs ys → length xs ≤ length ys
  Sub-length nil = omega arith
  Sub-length (skip y s) = omega (arith, Sub-length s)
  Sub-length (keep y s) = omega (arith, Sub-length s)

  -- sums by recursion
  pub sum-cons : (f : X → ℕ) (x : X) (xs : List X) → sum_by f (x ∷ xs) ≡ f x + sum_by f xs
  sum-cons f x xs = grind (arith, common_steps)

  pub sum-append : (f : X → ℕ) (xs ys : List X) → sum_by f (xs ++ ys) ≡ sum_by f xs + sum_by f ys
  sum-append f xs ys = grind (arith, common_steps)

  pub Sub-sum : (f : X → ℕ) {xs ys : List X} → Sub xs ys → sum_by f xs ≤ sum_by f ys
  Sub-sum f nil = omega arith
  Sub-sum f (skip {xs} {ys} y s) = rw (sum-cons f y ys) (omega (arith, Sub-sum f s))
  Sub-sum f (keep {xs} {ys} x s) = rw (sum-cons f x xs, sum-cons f x ys) (omega (arith, Sub-sum f s))

  pub Sub-all : (p : X → Bool) {xs ys : List X} → Sub xs ys → list_all p ys ≡ true → list_all p xs ≡ true
  Sub-all p {xs} {ys} s t = list_all-each p xs (λ x h. list_all-Has p ys x t (Sub-Has x s h))

module _ {X Y : Type 0} where
  pub Has-map : (f : X → Y) (xs : List X) (x : X) → Has xs x → Has (map f xs) (f x)
  Has-map f [] x h = absurd h
  Has-map f (z ∷ xs) x (inl e) = inl (ap f e)
  Has-map f (z ∷ xs) x (inr h) = inr (Has-map f xs x h)

  -- where an element of a changed list comes from
  pub map-Has : (f : X → Y) (xs : List X) (y : Y) → Has (map f xs) y → (x : X) × Has xs x × (f x ≡ y)
  map-Has f [] y h = absurd h
  map-Has f (z ∷ xs) y (inl e) = (z, inl refl, e)
  map-Has f (z ∷ xs) y (inr h) = let found = map-Has f xs y h in (found.0, inr found.1, found.2)

  pub Has-flat_map : (f : X → List Y) (xs : List X) (x : X) (y : Y) → Has xs x → Has (f x) y → Has (flat_map f xs) y
  Has-flat_map f [] x y h k = absurd h
  Has-flat_map f (z ∷ xs) x y (inl e) k = Has-left (f z) (flat_map f xs) y (subst (λ u. Has (f u) y) (sym e) k)
  Has-flat_map f (z ∷ xs) x y (inr h) k = Has-right (f z) (flat_map f xs) y (Has-flat_map f xs x y h k)

  pub flat_map-Has : (f : X → List Y) (xs : List X) (y : Y) → Has (flat_map f xs) y → (x : X) × Has xs x × Has (f x) y
  flat_map-Has f [] y h = absurd h
  flat_map-Has f (z ∷ xs) y h =
      elim (Has-cases (f z) (flat_map f xs) y h) [
        | inl k ↦ (z, inl refl, k)
        | inr k ↦ let found = flat_map-Has f xs y k in (found.0, inr found.1, found.2)
      ]

  pub flat_map-append : (f : X → List Y) (xs ys : List X) → flat_map f (xs ++ ys) ≡ flat_map f xs ++ flat_map f ys
  flat_map-append f xs ys = grind (arith, common_steps)

  pub Sub-map : (f : X → Y) {xs ys : List X} → Sub xs ys → Sub (map f xs) (map f ys)
  Sub-map f nil = nil
  Sub-map f (skip y s) = skip (f y) (Sub-map f s)
  Sub-map f (keep y s) = keep (f y) (Sub-map f s)

  pub Sub-flat_map : (f : X → List Y) {xs ys : List X} → Sub xs ys → Sub (flat_map f xs) (flat_map f ys)
  Sub-flat_map f nil = nil
  Sub-flat_map f (skip y s) = Sub-append (Sub-none (f y)) (Sub-flat_map f s)
  Sub-flat_map f (keep y s) = Sub-append (Sub-refl (f y)) (Sub-flat_map f s)

  pub Pairs-map : (R : X → X → Type 0) (S : Y → Y → Type 0) (f : X → Y) → ((x y : X) → R x y → S (f x) (f y))
      → (xs : List X) → Pairs R xs
      → Pairs S (map f xs)
  Pairs-map R S f g [] p = tt
  Pairs-map R S f g (x ∷ xs) p = (
    λ y h. let found = map-Has f xs y h in subst (λ u. S (f x) u) found.2 (g x found.0 (p.0 found.0 found.1)),
    Pairs-map R S f g xs p.1,
  )
