-- The place of a request, and lists by positions.
use Rattle.std.proofs.Common.{◌≡◌, ◌≤◌, ◌<◌, ◌+◌, ◌-◌, ◌∙◌, sym, ap, subst, ℕ, Bool, true, false, ◌&&◌, cond, List, [], ◌∷◌, ◌++◌}
use Rattle.std.proofs.Common.{length, map, take, drop, get_or, slice_get, Some, inl, inr, refl, arith, add-one, pred}
use Rattle.std.specs.Prelude.{nat_lt}
use Rattle.std.specs.List.{All, list_all, insert}
use Rattle.std.proofs.Math.Seq.{drop-cons, drop-length, take-length, take-suc}
use Rattle.std.proofs.lemmas.Bool.{and_from, and_left, and_right, cases_lt, le-ltb, lt-ltb}
use Rattle.std.proofs.lemmas.List.{map-append, take-append-drop, take-map, drop-map, length-map, length-take-le}
use Rattle.std.proofs.lemmas.List.Edits.{length-insert, get_or-insert_at, get_or-insert_above, get_or-insert_below}
use Rattle.std.proofs.lemmas.List.Folds.{list_all-append}
use Rattle.std.proofs.lemmas.Option.{get_or_from_slice_get}
use Rattle.lock_queue.specs.declared.request.Request.{Request}
use Rattle.lock_queue.specs.Unused.{unused_request}
use Rattle.lock_order_laws.specs.Normal.{normal, placed, stands_before}
use Rattle.lock_order_laws.specs.Swaps.{may_pass}
use Rattle.lock_order_laws.proofs.Serving.{normal_forms_tell}
use Rattle.lockcheck_orders.specs.declared.lines.Line.{Line}
use Rattle.lockcheck_orders.specs.Packing.{RequestForm, packed_request}
use Rattle.lockcheck_orders.specs.Placing.{place_in, request_at, in_order, IsPlacing}

-- ---- the place, and what is put there

pub placed-insert : (q : Request) (n : List Request) → insert n (place_in q n) q ≡ placed q n
placed-insert q [] = refl
placed-insert q (x ∷ n) = go (stands_before q x n) (placed-insert q n)
  where
    go : (b : Bool) → insert n (place_in q n) q ≡ placed q n
        → insert (x ∷ n) (cond b 0 (place_in q n + 1)) q ≡ cond b (q ∷ x ∷ n) (x ∷ placed q n)
    go true h = refl
    go false h = rw (add-one (place_in q n)) (ap (λ l. x ∷ l) h)

-- where a request may not pass one, its place is behind that
pub place-stopped : (q s : Request) (zs n : List Request) → may_pass q s ≡ false → place_in q (zs ++ s ∷ n) ≡ (length zs + 1) + place_in q n
place-stopped q s [] n h =
    ap (λ b. cond b 0 (place_in q n + 1)) (and_left (list_all (may_pass q) (s ∷ n)) (nat_lt q.job s.job) (and_left (may_pass q s) (list_all (may_pass q) n) h))
    ∙ omega arith
place-stopped q s (z ∷ zs) n h =
    let none : list_all (may_pass q) (zs ++ s ∷ n) ≡ false =
    list_all-append (may_pass q) zs (s ∷ n) ∙ and_right (list_all (may_pass q) zs) _ (and_left (may_pass q s) (list_all (may_pass q) n) h) in
    let front : stands_before q z (zs ++ s ∷ n) ≡ false =
    and_left (list_all (may_pass q) (z ∷ zs ++ s ∷ n)) (nat_lt q.job z.job) (and_right (may_pass q z) _ none) in
    let rest = place-stopped q s zs n h in
    ap (λ b. cond b 0 (place_in q (zs ++ s ∷ n) + 1)) front ∙ omega (arith, rest)

-- ---- lists by positions

module _ (rs : List Request) (order : List ℕ) where
  from-here : (j : ℕ) → j < length order
      → in_order rs (drop j order) ≡ request_at rs (get_or order j 0) ∷ in_order rs (drop (j + 1) order)
  from-here j lt = ap (in_order rs) (drop-cons order j 0 lt) ∙ rw (add-one j) refl

  pub order-insert : (p i : ℕ) → in_order rs (insert order p i) ≡ insert (in_order rs order) p (request_at rs i)
  order-insert p i =
      map-append (request_at rs) (take p order) (i ∷ drop p order)
      ∙ ap (λ l. l ++ request_at rs i ∷ in_order rs (drop p order)) (sym (take-map (request_at rs) p order))
      ∙ ap (λ l. take p (in_order rs order) ++ request_at rs i ∷ l) (sym (drop-map (request_at rs) p order))

  module _ (q : ℕ) where
    pub placing-first : IsPlacing rs q order (length order) (length order)
    placing-first =
        let none : in_order rs (drop (length order) order) ≡ [] = ap (in_order rs) (drop-length order) in
        record {
          passes = ap (list_all (may_pass (request_at rs q))) none;
          value = omega (arith, ap (place_in (request_at rs q)) none);
          few = omega arith;
          here = omega arith;
        }

    -- one more that it may pass
    pub placing-on : (j place new : ℕ) (s : Request) → IsPlacing rs q order (j + 1) place → j < length order → s ≡ request_at rs (get_or order j 0)
        → may_pass (request_at rs q) s ≡ true
        → new ≡ cond (nat_lt (request_at rs q).job s.job) j place
        → IsPlacing rs q order j new
    placing-on j place new s p lt is h e =
        let r : Request = request_at rs q in
        let later : List Request = in_order rs (drop (j + 1) order) in
        let list : in_order rs (drop j order) ≡ s ∷ later = from-here j lt ∙ ap (λ u. u ∷ later) (sym is) in
        let all : list_all (may_pass r) (s ∷ later) ≡ true = and_from (may_pass r s) (list_all (may_pass r) later) h p.passes in
        let front : stands_before r s later ≡ nat_lt r.job s.job = ap (λ b. b && nat_lt r.job s.job) all in
        let there : place_in r (in_order rs (drop j order)) ≡ cond (nat_lt r.job s.job) 0 (place_in r later + 1) =
        ap (place_in r) list ∙ ap (λ b. cond b 0 (place_in r later + 1)) front in
        record {
          passes = ap (list_all (may_pass r)) list ∙ all;
          value = e ∙ go (nat_lt r.job s.job) p.value ∙ ap (λ k. j + k) (sym there);
          few = subst (λ k. k ≤ length order) (sym e) (low (nat_lt r.job s.job) p.few);
          here = omega (arith, lt);
        }
      where
        go : (b : Bool) → place ≡ (j + 1) + place_in (request_at rs q) (in_order rs (drop (j + 1) order))
            → cond b j place ≡ j + cond b 0 (place_in (request_at rs q) (in_order rs (drop (j + 1) order)) + 1)
        go true v = omega arith
        go false v = omega (arith, v)

        low : (b : Bool) → place ≤ length order → cond b j place ≤ length order
        low true v = omega (arith, lt)
        low false v = v

    -- one that it may not pass
    pub placing-stops : (j place : ℕ) (s : Request) → IsPlacing rs q order (j + 1) place → j < length order → s ≡ request_at rs (get_or order j 0)
        → may_pass (request_at rs q) s ≡ false
        → place ≡ place_in (request_at rs q) (in_order rs order)
    placing-stops j place s p lt is h =
        let r : Request = request_at rs q in
        let later : List Request = in_order rs (drop (j + 1) order) in
        let front : List Request = in_order rs (take j order) in
        let whole : in_order rs order ≡ front ++ s ∷ later =
        ap (in_order rs) (sym (take-append-drop j order)) ∙ map-append (request_at rs) (take j order) (drop j order)
        ∙ ap (λ l. front ++ l) (from-here j lt ∙ ap (λ u. u ∷ later) (sym is)) in
        let size : length front ≡ j = length-map (take j order) (request_at rs) ∙ length-take-le j order (omega (arith, lt)) in
        p.value ∙ ap (λ k. (k + 1) + place_in r later) (sym size) ∙ sym (ap (place_in r) whole ∙ place-stopped r s front later h)

    pub placing-ends : (place : ℕ) → IsPlacing rs q order 0 place → place ≡ place_in (request_at rs q) (in_order rs order)
    placing-ends place p = p.value ∙ omega arith

-- ---- one request after another is put in its place

pub normal-first : (rs : List Request) → in_order rs [] ≡ normal (take 0 rs)
normal-first rs = refl

pub normal-more : (rs : List Request) (order new : List ℕ) (i place : ℕ) → i < length rs → in_order rs order ≡ normal (take i rs)
    → place ≡ place_in (request_at rs i) (in_order rs order)
    → new ≡ insert order place i
    → in_order rs new ≡ normal (take (i + 1) rs)
normal-more rs order new i place lt h e n =
    let r : Request = request_at rs i in
    let more : take (i + 1) rs ≡ take i rs ++ r ∷ [] = rw (add-one i) (take-suc rs i unused_request lt) in
    ap (in_order rs) n ∙ order-insert rs order place i ∙ ap (λ k. insert (in_order rs order) k r) e
    ∙ placed-insert r (in_order rs order) ∙ ap (placed r) h
    ∙ sym (normal_forms_tell.arrives (take i rs) r) ∙ ap normal (sym more)

pub within-more : (n i p : ℕ) (order new : List ℕ) → i < n → p ≤ length order → All (λ k. k < n) order → new ≡ insert order p i → All (λ k. k < n) new
within-more n i p order new lt few all e k d below =
    let size : length (insert order p i) ≡ length order + 1 = length-insert order p i few in
    let less : k < length order + 1 = omega (arith, below, ap length e, size) in
    subst (λ l. get_or l k d < n) (sym e) (elim (cases_lt k p) [
      | inl front ↦ subst (λ v. v < n) (sym (get_or-insert_below order p i d k front few)) (all k d (omega (arith, front, few)))
      | inr after ↦ elim (cases_lt p k) [
        | inl past ↦
            let m : ℕ = pred k in
            let is : m + 1 ≡ k = omega (arith, past) in
            subst (λ v. get_or (insert order p i) v d < n) is
            (subst (λ v. v < n) (sym (get_or-insert_above order p i d m (omega (arith, past, is)) few)) (all m d (omega (arith, less, is))))
        | inr here ↦
            let is : p ≡ k = omega (arith, after, here) in
            subst (λ v. get_or (insert order p i) v d < n) is (subst (λ v. v < n) (sym (get_or-insert_at order p i d few)) lt)
      ]
    ])

-- the request that a table gives
pub request-got : (rs : List Request) (i : ℕ) (r : Request) → slice_get rs i ≡ Some r → r ≡ request_at rs i
request-got rs i r h = sym (get_or_from_slice_get rs i r unused_request h)

-- ---- one step of the search for the place of a request

module _ (rs : List Request) (order : List ℕ) (q k place : ℕ) (r s : Request) (m : Bool) (p : IsPlacing rs q order k place) (some : 0 < k)
    (one : slice_get rs q ≡ Some r) (two : slice_get rs (get_or order (k - 1) 0) ≡ Some s) (is : m ≡ may_pass r s) where
  before : IsPlacing rs q order ((k - 1) + 1) place
  before = let e : k ≡ (k - 1) + 1 = omega (arith, some) in subst (λ i. IsPlacing rs q order i place) e p

  inside : k - 1 < length order
  inside = omega (arith, some, p.here)

  mine : r ≡ request_at rs q
  mine = request-got rs q r one

  theirs : s ≡ request_at rs (get_or order (k - 1) 0)
  theirs = request-got rs (get_or order (k - 1) 0) s two

  passing : (b : Bool) → m ≡ b → may_pass (request_at rs q) s ≡ b
  passing b h = sym (ap (λ u. may_pass u s) mine) ∙ sym is ∙ h

  pub placing-then : m ≡ true → r.job < s.job → IsPlacing rs q order (k - 1) (k - 1)
  placing-then h lt =
      placing-on rs order q (k - 1) place (k - 1) s before inside theirs (passing true h)
      (sym (ap (λ b. cond b (k - 1) place) (ap (λ (u : Request). nat_lt u.job s.job) (sym mine) ∙ lt-ltb r.job s.job lt)))

  pub placing-else : m ≡ true → s.job ≤ r.job → IsPlacing rs q order (k - 1) place
  placing-else h le =
      placing-on rs order q (k - 1) place place s before inside theirs (passing true h)
      (sym (ap (λ b. cond b (k - 1) place) (ap (λ (u : Request). nat_lt u.job s.job) (sym mine) ∙ le-ltb r.job s.job le)))

  pub placing-returns : m ≡ false → place ≡ place_in (request_at rs q) (in_order rs order)
  placing-returns h = placing-stops rs order q (k - 1) place s before inside theirs (passing false h)

-- ---- the requests at some positions, each as it is kept

pub map-twice : {X Y Z : Type 0} (f : Y → Z) (g : X → Y) (xs : List X) → map (λ x. f (g x)) xs ≡ map f (map g xs)
map-twice f g [] = refl
map-twice f g (x ∷ xs) = ap (λ l. f (g x) ∷ l) (map-twice f g xs)

pub take-whole : {X : Type 0} (xs : List X) (n : ℕ) → length xs ≡ n → take n xs ≡ xs
take-whole xs n e = ap (λ k. take k xs) (sym e) ∙ take-length xs

pub packed-all : (lines : List Line) (rs : List Request) (order : List ℕ) (n : ℕ) (kept : List RequestForm) → length order ≡ n
    → kept ≡ map (λ k. packed_request lines (request_at rs k)) (take n order)
    → kept ≡ map (packed_request lines) (in_order rs order)
packed-all lines rs order n kept e h =
    h ∙ ap (map (λ k. packed_request lines (request_at rs k))) (take-whole order n e) ∙ map-twice (packed_request lines) (request_at rs) order
