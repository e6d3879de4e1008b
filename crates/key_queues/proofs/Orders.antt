-- Lists of slots.
use Rattle.std.proofs.Common.{nat_lt, ◌≡◌, ◌≢◌, ◌≤◌, ◌<◌, ◌+◌, ◌-◌, ◌∙◌, sym, ap, subst, ℕ, zero, suc, Bool, true, false, not, ◌||◌, ◌==◌, cond, List, [], ◌∷◌, ◌++◌, length, take, drop, filter, get_or, inl, inr, refl, arith}
use Rattle.std.specs.List.{list_any, position_or_len, remove}
use Rattle.std.proofs.lemmas.Bool.{both_ways, cases_eq, eq-eqb, false_from_ne_true, ltb-true, ne_eqb, or_parts, or_right}
use Rattle.std.proofs.lemmas.List.{nil_from_length, length-append, drop-drop, length-drop}
use Rattle.std.proofs.lemmas.List.Folds.{list_any-append}
use Rattle.std.proofs.lemmas.List.Elements.{filter-append}
use Rattle.lock_queue.proofs.Lists.{Has, Pairs, Pairs-across, Pairs-append, Pairs-right, Sub-Pairs, Sub-length, Sub-filter, list_any-Has, list_any-found}
use Rattle.std.proofs.lemmas.Grind.{common_steps}
use Rattle.key_queues.specs.Stores.{one_if, without_slot}
use Rattle.key_queues.specs.Tables.{is_there, AreDistinct}
use Rattle.key_queues.proofs.Lists.{Sub-remove}

-- one more slot at the end
pub there_last : (q p : ℕ) (xs : List ℕ) → is_there q (xs ++ p ∷ []) ≡ (is_there q xs || (p == q))
there_last q p xs = grind (arith, list_any-append (λ x. x == q) xs (p ∷ []))

pub filter_same : (t u : ℕ → Bool) (xs : List ℕ) → ((x : ℕ) → is_there x xs ≡ true → t x ≡ u x) → filter t xs ≡ filter u xs
filter_same t u [] same = refl
filter_same t u (x ∷ xs) same =
    let rest = filter_same t u xs (λ y h. same y (or_right (x == y) (is_there y xs) h)) in
    grind (arith, same x, rest)

pub filter_short : (t : ℕ → Bool) (xs : List ℕ) → length (filter t xs) ≤ length xs
filter_short t xs = Sub-length (Sub-filter t xs)

pub filter_there : (t : ℕ → Bool) (x : ℕ) (xs : List ℕ) → is_there x xs ≡ true → t x ≡ true → is_there x (filter t xs) ≡ true
filter_there t x [] h is = cc
filter_there t x (y ∷ xs) h is = grind (arith, filter_there t x xs)

pub there_filter : (t : ℕ → Bool) (x : ℕ) (xs : List ℕ) → is_there x (filter t xs) ≡ true → is_there x xs ≡ true
there_filter t x [] h = cc
there_filter t x (y ∷ xs) h = grind (arith, there_filter t x xs)

pub there_at : (xs : List ℕ) (i d : ℕ) → i < length xs → is_there (get_or xs i d) xs ≡ true
there_at [] i d lt = absurd (omega arith)
there_at (x ∷ xs) zero d lt = grind arith
there_at (x ∷ xs) (suc i) d lt = grind (arith, there_at xs i d)

-- a slot is there where it has an index
pub there_by_index : (p : ℕ) (xs : List ℕ) → nat_lt (position_or_len (λ x. x == p) xs) (length xs) ≡ is_there p xs
there_by_index p [] = refl
there_by_index p (x ∷ xs) = grind (arith, there_by_index p xs)

pub there_within : (p : ℕ) (xs : List ℕ) → is_there p xs ≡ true → position_or_len (λ x. x == p) xs < length xs
there_within p xs h = ltb-true _ _ (there_by_index p xs ∙ h)

-- a list whose end is turned left by one, without its last
pub turned_out : (xs : List ℕ) (i n : ℕ) → n + 1 ≡ length xs → i ≤ n
    → take n (take i xs ++ drop 1 (drop i xs) ++ take 1 (drop i xs)) ≡ remove xs i
turned_out [] i n long le = absurd (omega arith)
turned_out (x ∷ xs) zero n long le = grind (arith, common_steps)
turned_out (x ∷ xs) (suc i) zero long le = absurd (omega arith)
turned_out (x ∷ xs) (suc i) (suc n) long le = ap (λ l. x ∷ l) (turned_out xs i n (omega arith) (omega arith))

-- a list without the first that is a slot, by recursion
drop_first : ℕ → List ℕ → List ℕ
drop_first p [] = []
drop_first p (x ∷ xs) = cond (x == p) xs (x ∷ drop_first p xs)

without_is : (p : ℕ) (xs : List ℕ) → without_slot xs p ≡ drop_first p xs
unfolding drop_first
without_is p [] = refl
without_is p (x ∷ xs) = go (x == p) (without_is p xs)
  where
    rest : ℕ
    rest = position_or_len (λ y. y == p) xs

    go : (b : Bool) → remove xs rest ≡ drop_first p xs → remove (x ∷ xs) (cond (not b) (1 + rest) 0) ≡ cond b xs (x ∷ drop_first p xs)
    go true later = refl
    go false later = let one : 1 + rest ≡ suc rest = omega arith in rw one (ap (λ l. x ∷ l) later)

-- each slot once, by recursion
Once : List ℕ → Type 0
Once [] = Unit {0}
Once (x ∷ xs) = (is_there x xs ≡ false) × Once xs

once_to : (xs : List ℕ) → AreDistinct xs → Once xs
unfolding Once
once_to [] once = tt
once_to (x ∷ xs) once = (
  (once [] xs x refl).1,
  once_to xs (λ before after p is.
      let both = once (x ∷ before) after p (ap (λ l. x ∷ l) is) in ((or_parts (x == p) (is_there p before) both.0).1, both.1)),
)

pub there_split : (p : ℕ) (before after : List ℕ) → is_there p (before ++ p ∷ after) ≡ true
there_split p before after = grind (arith, list_any-append (λ x. x == p) before (p ∷ after))

-- each slot once, by pairs
pub Has-there : (xs : List ℕ) (x : ℕ) → Has xs x → is_there x xs ≡ true
Has-there xs x h = list_any-Has (λ y. y == x) xs x (eq-eqb x x refl) h

pub once_pairs : (xs : List ℕ) → AreDistinct xs → Pairs (λ x y. x ≢ y) xs
once_pairs [] once = tt
once_pairs (x ∷ xs) once = (
  λ y h e. let out = (once [] xs x refl).1 in let there = Has-there xs y h in grind arith,
  once_pairs xs (λ before after p is. let both = once (x ∷ before) after p (ap (λ l. x ∷ l) is) in grind arith),
)

pub pairs_once : (xs : List ℕ) → Pairs (λ x y. x ≢ y) xs → AreDistinct xs
pairs_once xs pairs before after p is =
    let all : Pairs (λ x y. x ≢ y) (before ++ p ∷ after) = subst (Pairs (λ x y. x ≢ y)) is pairs in (
      list_any-absent (λ y. y == p) before (λ y h. ne_eqb y p (Pairs-across (λ x y. x ≢ y) before (p ∷ after) all y p h (inl refl))),
      list_any-absent (λ y. y == p) after (λ y h. ne_eqb y p (λ e. (Pairs-right (λ x y. x ≢ y) before (p ∷ after) all).0 y h (sym e))),
    )
  where
    list_any-absent : (test : ℕ → Bool) (ys : List ℕ) → ((y : ℕ) → Has ys y → test y ≡ false) → list_any test ys ≡ false
    list_any-absent test ys f =
        false_from_ne_true (list_any test ys) (λ t. let found = list_any-found test ys t in both_ways (test found.0) (f found.0 found.1) found.2)

-- one more that is not there
pub stands_last : (xs : List ℕ) (p : ℕ) → is_there p xs ≡ false → AreDistinct xs → AreDistinct (xs ++ p ∷ [])
stands_last xs p out once =
    pairs_once (xs ++ p ∷ [])
    (Pairs-append (λ x y. x ≢ y) xs (p ∷ []) (once_pairs xs once) (λ y h. absurd h, tt) (λ x y h k e.
    elim k [
      | inl f ↦ both_ways (is_there p xs) out (subst (λ z. is_there z xs ≡ true) (e ∙ sym f) (Has-there xs x h))
      | inr f ↦ absurd f
    ]))

-- what is there when one has gone
drop_other : (p q : ℕ) (xs : List ℕ) → q ≢ p → is_there q (drop_first p xs) ≡ is_there q xs
unfolding drop_first
drop_other p q [] ne = refl
drop_other p q (x ∷ xs) ne = grind (arith, drop_other p q xs)

drop_gone : (p : ℕ) (xs : List ℕ) → Once xs → is_there p (drop_first p xs) ≡ false
unfolding drop_first Once
drop_gone p [] once = refl
drop_gone p (x ∷ xs) once = grind (arith, drop_gone p xs, once)

drop_length : (p : ℕ) (xs : List ℕ) → is_there p xs ≡ true → length (drop_first p xs) + 1 ≡ length xs
unfolding drop_first
drop_length p [] h = cc
drop_length p (x ∷ xs) h = grind (arith, drop_length p xs)

-- what a filter keeps when one has gone
drop_kept : (t : ℕ → Bool) (p : ℕ) (xs : List ℕ) → t p ≡ true → filter t (drop_first p xs) ≡ drop_first p (filter t xs)
unfolding drop_first
drop_kept t p [] is = refl
drop_kept t p (x ∷ xs) is = grind (arith, drop_kept t p xs)

drop_left : (t : ℕ → Bool) (p : ℕ) (xs : List ℕ) → t p ≡ false → filter t (drop_first p xs) ≡ filter t xs
unfolding drop_first
drop_left t p [] isnt = refl
drop_left t p (x ∷ xs) isnt = grind (arith, drop_left t p xs)

-- the same of the list without a slot
module _ (p : ℕ) (xs : List ℕ) where
  pub without_other : (q : ℕ) → q ≢ p → is_there q (without_slot xs p) ≡ is_there q xs
  without_other q ne = ap (is_there q) (without_is p xs) ∙ drop_other p q xs ne

  pub without_gone : AreDistinct xs → is_there p (without_slot xs p) ≡ false
  without_gone once = ap (is_there p) (without_is p xs) ∙ drop_gone p xs (once_to xs once)

  pub without_once : AreDistinct xs → AreDistinct (without_slot xs p)
  without_once once = pairs_once (without_slot xs p) (Sub-Pairs (λ x y. x ≢ y) (Sub-remove xs _) (once_pairs xs once))

  pub without_length : is_there p xs ≡ true → length (without_slot xs p) + 1 ≡ length xs
  without_length h = ap (λ l. length l + 1) (without_is p xs) ∙ drop_length p xs h

  pub without_kept : (t : ℕ → Bool) → t p ≡ true → filter t (without_slot xs p) ≡ without_slot (filter t xs) p
  without_kept t is = ap (filter t) (without_is p xs) ∙ drop_kept t p xs is ∙ sym (without_is p (filter t xs))

  pub without_left : (t : ℕ → Bool) → t p ≡ false → filter t (without_slot xs p) ≡ filter t xs
  without_left t isnt = ap (filter t) (without_is p xs) ∙ drop_left t p xs isnt

-- a list that begins with slots that are not the one
pub position_past : (p k : ℕ) (xs : List ℕ) → k ≤ length xs → is_there p (take k xs) ≡ false
    → position_or_len (λ x. x == p) xs ≡ k + position_or_len (λ x. x == p) (drop k xs)
position_past p zero xs le h = omega arith
position_past p (suc k) [] le h = absurd (omega arith)
position_past p (suc k) (x ∷ xs) le h = grind (arith, position_past p k xs)

-- the last slot, where each stands once
last_dropped : (p n d : ℕ) (xs : List ℕ) → Once xs → n + 1 ≡ length xs → get_or xs n d ≡ p → drop_first p xs ≡ take n xs
unfolding drop_first Once
last_dropped p n d [] once long is = absurd (omega arith)
last_dropped p zero d (x ∷ xs) once long is = grind (arith, nil_from_length xs)
last_dropped p (suc n) d (x ∷ xs) once long is = grind (arith, last_dropped p n d xs once.1, there_at xs n d, once)

pub without_last : (p n d : ℕ) (xs : List ℕ) → AreDistinct xs → n + 1 ≡ length xs → get_or xs n d ≡ p → without_slot xs p ≡ take n xs
without_last p n d xs once long is = without_is p xs ∙ last_dropped p n d xs (once_to xs once) long is

pub stands_filter : (t : ℕ → Bool) (xs : List ℕ) → AreDistinct xs → AreDistinct (filter t xs)
stands_filter t xs once = pairs_once (filter t xs) (Sub-Pairs (λ x y. x ≢ y) (Sub-filter t xs) (once_pairs xs once))

pub passed_on : (p from k : ℕ) (xs : List ℕ) → from + k ≤ length xs → is_there p (take (from + k - from) (drop from xs)) ≡ false
    → from + position_or_len (λ x. x == p) (drop from xs) ≡ position_or_len (λ x. x == p) xs
    → from + k + position_or_len (λ x. x == p) (drop (from + k) xs) ≡ position_or_len (λ x. x == p) xs
passed_on p from k xs le out is =
    grind (arith, position_past p k (drop from xs), drop-drop k from xs, length-drop from xs)

-- how many of a list pass
count_cons : (t : ℕ → Bool) (x : ℕ) (xs : List ℕ) → length (filter t (x ∷ xs)) ≡ length (filter t xs) + one_if (t x)
count_cons t x xs = grind arith

pub count_changed : (t u : ℕ → Bool) (p : ℕ) (xs : List ℕ) → AreDistinct xs → is_there p xs ≡ true → ((x : ℕ) → x ≢ p → t x ≡ u x)
    → length (filter u xs) + one_if (t p) ≡ length (filter t xs) + one_if (u p)
unfolding Once
count_changed t u p xs once h same = go xs (once_to xs once) h
  where
    go : (ys : List ℕ) → Once ys → is_there p ys ≡ true → length (filter u ys) + one_if (t p) ≡ length (filter t ys) + one_if (u p)
    go [] o k = cc
    go (y ∷ ys) o k =
        elim (cases_eq y p) [
          | inl e ↦
              let away : (x : ℕ) → is_there x ys ≡ true → x ≢ p =
              λ x h s. both_ways (is_there y ys) o.0 (subst (λ z. is_there z ys ≡ true) (s ∙ sym e) h) in
              let rest = ap length (filter_same t u ys (λ x h. same x (away x h))) in
              omega (arith, count_cons t y ys, count_cons u y ys, rest, ap (λ z. one_if (t z)) e, ap (λ z. one_if (u z)) e)
          | inr ne ↦
              let later : is_there p ys ≡ true = sym (ap (λ b. b || is_there p ys) (ne_eqb y p ne)) ∙ k in
              omega (arith, count_cons t y ys, count_cons u y ys, go ys o.1 later, ap one_if (same y ne))
        ]

pub count_without : (t : ℕ → Bool) (p : ℕ) (xs : List ℕ) → is_there p xs ≡ true
    → length (filter t (without_slot xs p)) + one_if (t p) ≡ length (filter t xs)
count_without t p xs h =
    grind (arith, without_kept p xs t, without_left p xs t, without_length p (filter t xs), filter_there t p xs)

pub count_last : (t : ℕ → Bool) (xs : List ℕ) (p : ℕ) → length (filter t (xs ++ p ∷ [])) ≡ length (filter t xs) + one_if (t p)
count_last t xs p = grind (arith, filter-append t xs (p ∷ []), length-append)

pub filter_passes : (t : ℕ → Bool) (x : ℕ) (xs : List ℕ) → is_there x (filter t xs) ≡ true → t x ≡ true
filter_passes t x [] h = cc
filter_passes t x (y ∷ xs) h = grind (arith, filter_passes t x xs)
