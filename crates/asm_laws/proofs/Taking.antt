-- Which code is told of addresses that are taken.
use Rattle.std.proofs.Common.{◌≡◌, ◌∙◌, sym, ap, ℕ, zero, suc, ◌+◌, ◌-◌, ◌<◌, ◌≤◌, Bool, true, false, ◌&&◌, nat_eq}
use Rattle.std.proofs.Common.{List, [], ◌∷◌, ◌++◌, map, Result, refl, arith, inl, inr}
use Rattle.std.specs.Prelude.{◌^◌, ◌||◌, ◌==◌, not, nat_le, nat_lt, if◌then◌else◌}
use Rattle.std.specs.List.{range_with_len, list_any}
use Rattle.std.proofs.lemmas.Bool.{and_parts, and_from, or_from, cases_Bool, true_from_ne_false, not_from_true, not_from_false, ltb-true}
use Rattle.std.proofs.lemmas.List.Folds.{list_any-append, list_all-append}
use Rattle.std.proofs.lemmas.Grind.{common_steps}
use Rattle.mac_layout.specs.declared.error.AsmCode.{AsmCode}
use Rattle.mac_layout.specs.Addresses.{are_apart}
use Rattle.mac_asm.specs.Assembly.{are_below}
use Rattle.mac_layout.specs.Faults.{least}
use Rattle.mac_layout.specs.LaidOut.{is_taken, addresses_in, count_or, taking, taking_size, taking_all}
use Rattle.asm_laws.specs.Laws.{ranges_from}
use Rattle.asm_laws.proofs.Apart.{apart-join, range-apart, free-high, high-free}
use Rattle.asm_laws.proofs.Clear.{no-true}
use Rattle.asm_laws.proofs.Least.{told, least-told, addresses-told, told-same}
use Rattle.asm_laws.proofs.Sizing.{said, IsSize, said-counts}

-- no address that was taken lies at 2 ^ 18 or above
not-above : (t : List ℕ) (p : ℕ) → are_below t ≡ true → 2 ^ 18 ≤ p → is_taken t p ≡ false
not-above [] p h k = refl
not-above (x ∷ t) p h k =
    let b = and_parts (nat_lt x (2 ^ 18)) (are_below t) h in
    let low = ltb-true x (2 ^ 18) b.0 in
    or_from _ _ (unequal p x (omega (arith, low, k))) (not-above t p b.1 k)
  where
    unequal : (a b : ℕ) → b < a → nat_eq a b ≡ false
    unequal a b h = grind (arith, common_steps)

none-above : (n p : ℕ) (t : List ℕ) → are_below t ≡ true → 2 ^ 18 ≤ p → list_any (is_taken t) (range_with_len p n) ≡ false
none-above zero p t h k = refl
none-above (suc n) p t h k =
    let next : 2 ^ 18 ≤ p + 1 = omega (arith, k) in
    or_from _ _ (not-above t p h k) (none-above n (p + 1) t h next)

any-cut : (n k p : ℕ) (t : List ℕ) → k ≤ n → 2 ^ 18 ≤ p + k → are_below t ≡ true
    → list_any (is_taken t) (range_with_len p k) ≡ list_any (is_taken t) (range_with_len p n)
any-cut n zero p t h k b =
    let high : 2 ^ 18 ≤ p = omega (arith, k) in
    sym (none-above n p t b high)
any-cut zero (suc k) p t h g b = absurd (omega (arith, h))
any-cut (suc n) (suc k) p t h g b =
    let less : k ≤ n = omega (arith, h) in
    let high : 2 ^ 18 ≤ p + 1 + k = omega (arith, g) in
    ap (λ r. is_taken t p || r) (any-cut n k (p + 1) t less high b)

-- of addresses in a row only those below 2 ^ 18 can be taken
any-addresses : (p n : ℕ) (t : List ℕ) → are_below t ≡ true
    → list_any (is_taken t) (addresses_in p n) ≡ list_any (is_taken t) (range_with_len p n)
any-addresses p n t b = test (nat_le n (2 ^ 18 - p)) refl
  where
    less : (n p : ℕ) → nat_le n (2 ^ 18 - p) ≡ false → (2 ^ 18 - p ≤ n) × (2 ^ 18 ≤ p + (2 ^ 18 - p))
    less n p h = (first n (2 ^ 18 - p) h, second p (2 ^ 18))
      where
        first : (n m : ℕ) → nat_le n m ≡ false → m ≤ n
        first n m h = grind (arith, common_steps)

        second : (p m : ℕ) → m ≤ p + (m - p)
        second p m = omega arith

    test : (c : Bool) → nat_le n (2 ^ 18 - p) ≡ c
        → list_any (is_taken t) (range_with_len p (if nat_le n (2 ^ 18 - p) then n else 2 ^ 18 - p)) ≡ list_any (is_taken t) (range_with_len p n)
    test true h = ap (λ c. list_any (is_taken t) (range_with_len p (if c then n else 2 ^ 18 - p))) h
    test false h =
        ap (λ c. list_any (is_taken t) (range_with_len p (if c then n else 2 ^ 18 - p))) h
        ∙ any-cut n (2 ^ 18 - p) p t (less n p h).0 (less n p h).1 b

low-addresses : (n p : ℕ) → are_below (addresses_in p n) ≡ true
low-addresses n p = low (if nat_le n (2 ^ 18 - p) then n else 2 ^ 18 - p) p (fits n p (2 ^ 18))
  where
    fits : (n p m : ℕ) → (if nat_le n (m - p) then n else m - p) ≤ m - p
    fits n p m = grind (arith, common_steps)

    lt : (p m : ℕ) → p < m → nat_lt p m ≡ true
    lt p m h = grind (arith, common_steps)

    low : (n p : ℕ) → n ≤ 2 ^ 18 - p → are_below (range_with_len p n) ≡ true
    low zero p h = refl
    low (suc n) p h =
        let here : p < 2 ^ 18 = omega (arith, h) in
        let next : n ≤ 2 ^ 18 - (p + 1) = omega (arith, h) in
        and_from _ _ (lt p (2 ^ 18) here) (low n (p + 1) next)

high-test : (p n : ℕ) → (not (n == 0) && not (nat_le (p + n) (2 ^ 18))) ≡ not (are_below (range_with_len p n))
high-test p n = elim (cases_Bool (are_below (range_with_len p n))) [
  | inl h ↦ free-high p n h ∙ sym (not_from_true _ h)
  | inr h ↦ true_from_ne_false (not (n == 0) && not (nat_le (p + n) (2 ^ 18))) (λ k. no-true (are_below (range_with_len p n)) (high-free p n k) h)
      ∙ sym (not_from_false _ h)
]

taking-told : (t : List ℕ) (p n : ℕ) → are_below t ≡ true
    → taking t p n ≡ told (list_any (is_taken t) (range_with_len p n)) false false (not (are_below (range_with_len p n)))
unfolding taking
taking-told t p n b =
    addresses-told (list_any (is_taken t) (addresses_in p n)) _
    ∙ ap (λ x. told x false false (not (n == 0) && not (nat_le (p + n) (2 ^ 18)))) (any-addresses p n t b)
    ∙ ap (λ x. told (list_any (is_taken t) (range_with_len p n)) false false x) (high-test p n)

pub size-told : (t : List ℕ) (p : ℕ) (e u : Bool) (n : ℕ) → IsSize e u n → are_below t ≡ true
    → taking_size t p (said e u n) ≡ told (list_any (is_taken t) (range_with_len p n)) u e (not (are_below (range_with_len p n)))
size-told t p true u n h b =
    ap (λ x. told false x true false) (sym (h.one refl))
    ∙ ap (λ k. told (list_any (is_taken t) (range_with_len p k)) u true (not (are_below (range_with_len p k)))) (sym (h.early_none refl))
size-told t p false true n h b =
    ap (λ k. told (list_any (is_taken t) (range_with_len p k)) true false (not (are_below (range_with_len p k)))) (sym (h.unfit_none refl))
size-told t p false false n h b = taking-told t p n b

-- a literal as it is measured
pub record Sized : Type 0 where
  pub early : Bool
  pub unfit : Bool
  pub size : ℕ
  pub is : IsSize early unfit size

abbrev pub said_of : Sized → Result ℕ AsmCode
said_of s = said s.early s.unfit s.size

abbrev pub size_in : Sized → ℕ
size_in s = s.size

abbrev pub early_in : Sized → Bool
early_in s = s.early

abbrev pub unfit_in : Sized → Bool
unfit_in s = s.unfit

-- addresses behind others are not among them
behind-row : (n p x : ℕ) → p + n ≤ x → list_any (nat_eq x) (range_with_len p n) ≡ false
behind-row zero p x h = refl
behind-row (suc n) p x h =
    let more : p < x = omega (arith, h) in
    let next : p + 1 + n ≤ x = omega (arith, h) in
    or_from _ _ (unequal x p more) (behind-row n (p + 1) x next)
  where
    unequal : (a b : ℕ) → b < a → nat_eq a b ≡ false
    unequal a b h = grind (arith, common_steps)

row-behind : (k q n p : ℕ) → p + n ≤ q → list_any (is_taken (range_with_len p n)) (range_with_len q k) ≡ false
row-behind zero q n p h = refl
row-behind (suc k) q n p h =
    let next : p + n ≤ q + 1 = omega (arith, h) in
    or_from _ _ (behind-row n p q h) (row-behind k (q + 1) n p next)

ranges-behind : (zs : List ℕ) (q n p : ℕ) → p + n ≤ q → list_any (is_taken (range_with_len p n)) (ranges_from q zs) ≡ false
unfolding ranges_from
ranges-behind [] q n p h = refl
ranges-behind (z ∷ zs) q n p h =
    let next : p + n ≤ q + z = omega (arith, h) in
    list_any-append (is_taken (range_with_len p n)) (range_with_len q z) (ranges_from (q + z) zs)
    ∙ or_from _ _ (row-behind z q n p h) (ranges-behind zs (q + z) n p next)

pub ranges-apart : (zs : List ℕ) (p : ℕ) → are_apart (ranges_from p zs) ≡ true
unfolding ranges_from are_apart
ranges-apart [] p = refl
ranges-apart (z ∷ zs) p =
    let same : p + z ≤ p + z = omega arith in
    apart-join (range_with_len p z) (ranges_from (p + z) zs) (range-apart p z) (ranges-apart zs (p + z)) (ranges-behind zs (p + z) z p same)

grown-taken : (xs a b : List ℕ) → list_any (is_taken b) xs ≡ false → list_any (is_taken (a ++ b)) xs ≡ list_any (is_taken a) xs
grown-taken [] a b h = refl
grown-taken (x ∷ xs) a b h = step (is_taken b x) refl (grown-taken xs a b)
  where
    without : (c : Bool) → (c || false) ≡ c
    without true = refl
    without false = refl

    step : (c : Bool) → is_taken b x ≡ c
        → (list_any (is_taken b) xs ≡ false → list_any (is_taken (a ++ b)) xs ≡ list_any (is_taken a) xs)
        → list_any (is_taken (a ++ b)) (x ∷ xs) ≡ list_any (is_taken a) (x ∷ xs)
    step true e f = absurd (let bad : (is_taken b x || list_any (is_taken b) xs) ≡ true = ap (λ c. c || list_any (is_taken b) xs) e in no-true _ bad h)
    step false e f =
        ap (λ c. c || list_any (is_taken (a ++ b)) xs) (list_any-append (nat_eq x) a b ∙ ap (λ c. is_taken a x || c) e ∙ without (is_taken a x))
        ∙ ap (λ c. is_taken a x || c) (f (sym (ap (λ c. c || list_any (is_taken b) xs) e) ∙ h))

addresses-behind : (zs : List ℕ) (p n : ℕ) → list_any (is_taken (addresses_in p n)) (ranges_from (p + n) zs) ≡ false
addresses-behind zs p n = ranges-behind zs (p + n) (if nat_le n (2 ^ 18 - p) then n else 2 ^ 18 - p) p (less n p (2 ^ 18 - p))
  where
    less : (n p m : ℕ) → p + (if nat_le n m then n else m) ≤ p + n
    less n p m = grind (arith, common_steps)

pub not-both : (a b : Bool) → not (a && b) ≡ (not a || not b)
not-both true b = refl
not-both false b = refl

-- all literals behind END
pub all-told : (items : List Sized) (t : List ℕ) (p : ℕ) → are_below t ≡ true
    → taking_all t p (map said_of items)
    ≡ told (list_any (is_taken t) (ranges_from p (map size_in items))) (list_any unfit_in items) (list_any early_in items)
    (not (are_below (ranges_from p (map size_in items))))
unfolding taking_all ranges_from
all-told [] t p b = refl
all-told (i ∷ items) t p b =
    let n = i.size in
    let r = said i.early i.unfit n in
    let here = range_with_len p n in
    let later = ranges_from (p + n) (map size_in items) in
    let t' = t ++ addresses_in p n in
    let b' : are_below t' ≡ true =
    list_all-append (λ n. nat_lt n 262144) t (addresses_in p n) ∙ and_from _ _ b (low-addresses n p) in
    let counts : count_or 0 r ≡ n = said-counts i.early i.unfit n i.is in
    ap (λ k. least (taking_size t p r) (taking_all (t ++ addresses_in p k) (p + k) (map said_of items))) counts
    ∙ ap (λ x. least x (taking_all t' (p + n) (map said_of items))) (size-told t p i.early i.unfit n i.is b)
    ∙ ap (λ x. least (told (list_any (is_taken t) here) i.unfit i.early (not (are_below here))) x) (all-told items t' (p + n) b')
    ∙ least-told (list_any (is_taken t) here) i.unfit i.early (not (are_below here))
    (list_any (is_taken t') later) (list_any unfit_in items) (list_any early_in items) (not (are_below later))
    ∙ told-same _ _ _ _ (list_any (is_taken t) (here ++ later)) (i.unfit || list_any unfit_in items) (i.early || list_any early_in items)
    (not (are_below (here ++ later)))
    (ap (λ x. list_any (is_taken t) here || x) (grown-taken later t (addresses_in p n) (addresses-behind (map size_in items) p n))
    ∙ sym (list_any-append (is_taken t) here later))
    refl refl
    (sym (not-both (are_below here) (are_below later)) ∙ ap not (sym (list_all-append (λ n. nat_lt n 262144) here later)))
