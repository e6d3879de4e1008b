-- The positions of requests in their list.
use Rattle.std.proofs.Common.{◌≡◌, ◌<◌, ◌+◌, ◌∙◌, sym, ap, subst, ℕ, zero, suc, Bool, true, false, cond, List, [], ◌∷◌, ◌++◌}
use Rattle.std.proofs.Common.{length, take, drop, slice_get, Some, ◌⊎◌, inl, inr, refl, arith, append_assoc}
use Rattle.std.proofs.lemmas.Bool.{cases_Bool}
use Rattle.std.proofs.lemmas.Grind.{common_steps}
use Rattle.lock_queue.specs.declared.request.Request.{Request}
use Rattle.lock_queue.specs.Queue.{chosen_behind, some_behind}
use Rattle.lock_queue.proofs.Lists.{Has, Has-right}

-- a position in a list: what stands before it and what behind it
pub record Split {X : Type 0} (xs : List X) (x : X) : Type 0 where
  pub before : List X
  pub after : List X
  pub is : xs ≡ before ++ x ∷ after

module _ {X : Type 0} where
  pub nil-append : (xs : List X) → xs ++ [] ≡ xs
  nil-append [] = refl
  nil-append (x ∷ xs) = ap (λ l. x ∷ l) (nil-append xs)

  -- each element has a position
  pub split_Has : (xs : List X) (x : X) → Has xs x → Split xs x
  split_Has [] x h = absurd h
  split_Has (y ∷ xs) x (inl e) = record { before = []; after = xs; is = ap (λ u. u ∷ xs) e }
  split_Has (y ∷ xs) x (inr h) =
      let s : Split xs x = split_Has xs x h in
      record { before = y ∷ s.before; after = s.after; is = ap (λ l. y ∷ l) s.is }

  pub Has-middle : (a b : List X) (x : X) → Has (a ++ x ∷ b) x
  Has-middle a b x = Has-right a (x ∷ b) x (inl refl)

  pub slice_get-Has : (xs : List X) (i : ℕ) (x : X) → slice_get xs i ≡ Some x → Has xs x
  slice_get-Has [] i x e = cc
  slice_get-Has (y ∷ xs) zero x e = inl (cc)
  slice_get-Has (y ∷ xs) (suc i) x e = inr (slice_get-Has xs i x e)

  -- the element at the position i, with what is before and behind it
  pub split_at : (xs : List X) (i : ℕ) (x : X) → slice_get xs i ≡ Some x → xs ≡ take i xs ++ x ∷ drop (suc i) xs
  split_at [] i x e = cc
  split_at (y ∷ xs) zero x e = cc
  split_at (y ∷ xs) (suc i) x e = ap (λ l. y ∷ l) (split_at xs i x e)

  -- what stands before the later of two positions
  pub between : (xs : List X) (i j : ℕ) (x y : X) → i < j → slice_get xs i ≡ Some x → slice_get xs j ≡ Some y
      → (m : List X) × (take j xs ≡ take i xs ++ x ∷ m)
  between [] i j x y lt e f = cc
  between (z ∷ xs) i zero x y lt e f = absurd (omega arith)
  between (z ∷ xs) zero (suc j) x y lt e f = (take j xs, cc)
  between (z ∷ xs) (suc i) (suc j) x y lt e f =
      let rest = between xs i j x y (omega arith) e f in (rest.0, ap (λ l. z ∷ l) rest.1)

  -- an element behind the position i
  pub Has-drop : (xs : List X) (i j : ℕ) (y : X) → i < j → slice_get xs j ≡ Some y → Has (drop (suc i) xs) y
  Has-drop [] i j y lt e = cc
  Has-drop (z ∷ xs) i zero y lt e = absurd (omega arith)
  Has-drop (z ∷ xs) zero (suc j) y lt e = slice_get-Has xs j y e
  Has-drop (z ∷ xs) (suc i) (suc j) y lt e = Has-drop xs i j y (omega arith) e

  pub Has-slice_get : (xs : List X) (x : X) → Has xs x → (k : ℕ) × (slice_get xs k ≡ Some x)
  Has-slice_get [] x h = absurd h
  Has-slice_get (y ∷ xs) x (inl e) = (zero, ap Some e)
  Has-slice_get (y ∷ xs) x (inr h) = let found = Has-slice_get xs x h in (suc found.0, found.1)

  pub slice_get-behind : (a b : List X) (x y : X) (k : ℕ) → slice_get b k ≡ Some y
      → slice_get (a ++ x ∷ b) (length a + suc k) ≡ Some y
  slice_get-behind [] b x y k e = let at : length {A = X} [] + suc k ≡ suc k = omega arith in rw at e
  slice_get-behind (z ∷ a) b x y k e =
      let at : length (z ∷ a) + suc k ≡ suc (length a + suc k) = omega arith in rw at (slice_get-behind a b x y k e)

  pub slice_get-split : (a b : List X) (x : X) → slice_get (a ++ x ∷ b) (length a) ≡ Some x
  slice_get-split [] b x = refl
  slice_get-split (y ∷ a) b x = slice_get-split a b x

  pub take-split : (a b : List X) → take (length a) (a ++ b) ≡ a
  take-split [] b = refl
  take-split (y ∷ a) b = ap (λ l. y ∷ l) (take-split a b)

  -- one more item before the rest
  pub push-append : (a : List X) (x : X) (b : List X) → (a ++ x ∷ []) ++ b ≡ a ++ x ∷ b
  push-append a x b = append_assoc a (x ∷ []) b

-- a test of the requests before a request and of itself
abbrev pub Test : Type 0
Test = List Request → Request → Bool

-- the choice goes through the list from front to back
pub chosen_behind-append : (test : Test) (e xs ys : List Request)
    → chosen_behind test e (xs ++ ys) ≡ chosen_behind test e xs ++ chosen_behind test (e ++ xs) ys
chosen_behind-append test e [] ys = rw (nil-append e) refl
chosen_behind-append test e (r ∷ xs) ys =
    let rest : chosen_behind test (e ++ r ∷ []) (xs ++ ys) ≡ chosen_behind test (e ++ r ∷ []) xs ++ chosen_behind test (e ++ r ∷ xs) ys =
    chosen_behind-append test (e ++ r ∷ []) xs ys ∙ ap (λ l. chosen_behind test (e ++ r ∷ []) xs ++ chosen_behind test l ys) (push-append e r xs) in
    elim (test e r) as (λ b.
    cond b (r ∷ chosen_behind test (e ++ r ∷ []) (xs ++ ys)) (chosen_behind test (e ++ r ∷ []) (xs ++ ys))
    ≡ cond b (r ∷ chosen_behind test (e ++ r ∷ []) xs) (chosen_behind test (e ++ r ∷ []) xs) ++ chosen_behind test (e ++ r ∷ xs) ys) [
      | true ↦ ap (λ l. r ∷ l) rest
      | false ↦ rest
    ]

-- a chosen request stands somewhere, and passes the test there
pub record Chosen (test : Test) (e rs : List Request) (r : Request) : Type 0 where
  pub split : Split rs r
  pub passes : test (e ++ split.before) r ≡ true

pub chosen-Has : (test : Test) (e rs : List Request) (r : Request) → Has (chosen_behind test e rs) r
    → Chosen test e rs r
chosen-Has test e [] r h = absurd h
chosen-Has test e (x ∷ rs) r h = go (chosen-Has test (e ++ x ∷ []) rs r) (cases_Bool (test e x))
  where
    later : Chosen test (e ++ x ∷ []) rs r → Chosen test e (x ∷ rs) r
    later c = record {
      split = record { before = x ∷ c.split.before; after = c.split.after; is = ap (λ l. x ∷ l) c.split.is };
      passes = subst (λ l. test l r ≡ true) (push-append e x c.split.before) c.passes;
    }

    go : (Has (chosen_behind test (e ++ x ∷ []) rs) r → Chosen test (e ++ x ∷ []) rs r)
        → (test e x ≡ true) ⊎ (test e x ≡ false) → Chosen test e (x ∷ rs) r
    go rest (inl t) =
        let k : Has (x ∷ chosen_behind test (e ++ x ∷ []) rs) r =
        subst (λ b. Has (cond b (x ∷ chosen_behind test (e ++ x ∷ []) rs) (chosen_behind test (e ++ x ∷ []) rs)) r) t h in
        elim k [
          | inl same ↦ record {
            split = record { before = []; after = rs; is = ap (λ u. u ∷ rs) same };
            passes = subst (λ l. test l r ≡ true) (sym (nil-append e)) (subst (λ u. test e u ≡ true) same t);
          }
          | inr k ↦ later (rest k)
        ]
    go rest (inr f) =
        later (rest (subst (λ b. Has (cond b (x ∷ chosen_behind test (e ++ x ∷ []) rs) (chosen_behind test (e ++ x ∷ []) rs)) r) f h))

pub Has-chosen : (test : Test) (e a b : List Request) (r : Request) → test (e ++ a) r ≡ true
    → Has (chosen_behind test e (a ++ r ∷ b)) r
Has-chosen test e a b r t =
    rw (chosen_behind-append test e a (r ∷ b))
    (Has-right (chosen_behind test e a) _ r (rw t (inl refl)))

-- none is chosen where none passes
pub chosen_none : (test : Test) (e rs : List Request)
    → ((a b : List Request) (r : Request) → rs ≡ a ++ r ∷ b → test (e ++ a) r ≡ false)
    → chosen_behind test e rs ≡ []
chosen_none test e [] none = refl
chosen_none test e (x ∷ rs) none =
    let here : test e x ≡ false = subst (λ l. test l x ≡ false) (nil-append e) (none [] rs x refl) in
    let rest : chosen_behind test (e ++ x ∷ []) rs ≡ [] =
    chosen_none test (e ++ x ∷ []) rs (λ a b r is. subst (λ l. test l r ≡ false) (sym (push-append e x a)) (none (x ∷ a) b r (ap (λ l. x ∷ l) is))) in
    rw here rest

-- where a request that passes stands among the chosen ones
pub chosen-position : (test : Test) (e a b : List Request) (r : Request) → test (e ++ a) r ≡ true
    → chosen_behind test e (a ++ r ∷ b) ≡ chosen_behind test e a ++ r ∷ chosen_behind test ((e ++ a) ++ r ∷ []) b
chosen-position test e a b r t = chosen_behind-append test e a (r ∷ b) ∙ rw t refl

-- a request that passes, with those around it
pub record Found (test : Test) (e rs : List Request) : Type 0 where
  pub request : Request
  pub split : Split rs request
  pub passes : test (e ++ split.before) request ≡ true

pub some_found : (test : Test) (e rs : List Request) → some_behind test e rs ≡ true → Found test e rs
some_found test e [] h = cc
some_found test e (x ∷ rs) h = go (some_found test (e ++ x ∷ []) rs) (cases_Bool (test e x))
  where
    go : (some_behind test (e ++ x ∷ []) rs ≡ true → Found test (e ++ x ∷ []) rs)
        → (test e x ≡ true) ⊎ (test e x ≡ false) → Found test e (x ∷ rs)
    go rest (inl t) = record {
      request = x;
      split = record { before = []; after = rs; is = refl };
      passes = subst (λ l. test l x ≡ true) (sym (nil-append e)) t;
    }
    go rest (inr f) =
        let more : some_behind test (e ++ x ∷ []) rs ≡ true = grind (arith, common_steps) in
        let c = rest more in
        record {
          request = c.request;
          split = record { before = x ∷ c.split.before; after = c.split.after; is = ap (λ l. x ∷ l) c.split.is };
          passes = subst (λ l. test l c.request ≡ true) (push-append e x c.split.before) c.passes;
        }

pub some-split : (test : Test) (e a b : List Request) (r : Request) → test (e ++ a) r ≡ true
    → some_behind test e (a ++ r ∷ b) ≡ true
some-split test e [] b r t =
    let here : test e r ≡ true = subst (λ l. test l r ≡ true) (nil-append e) t in rw here refl
some-split test e (x ∷ a) b r t =
    let rest : some_behind test (e ++ x ∷ []) (a ++ r ∷ b) ≡ true =
    some-split test (e ++ x ∷ []) a b r (subst (λ l. test l r ≡ true) (sym (push-append e x a)) t) in
    grind (arith, common_steps)
