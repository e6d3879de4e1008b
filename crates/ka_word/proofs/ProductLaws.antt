-- The words of a product.
use Rattle.std.proofs.Common.{◌≡◌, ◌↔◌, ◌∙◌, ℕ, zero, suc, ◌+◌, ◌-◌, ◌*◌, ◌/◌, ◌%◌, ◌^◌, ◌<◌, ◌≤◌, inl, inr, Bool, true, false, not, cond, ◌&&◌}
use Rattle.std.proofs.Common.{nat_eq, nat_lt, nat_le, unsigned_abs, subst, ℤ, pos, negsuc, ◌*ℤ◌, int_lt, refl, sym, ap, arith}
use Rattle.std.proofs.lemmas.Bool.{lt-leb, le-leb, le-ltb, lt-ltb, ltb-true, ltb-false, leb-true, leb-false, eqb-false, eq-eqb}
use Rattle.std.proofs.lemmas.Bool.{and_parts, and_from, cases_eq, not-true, not-false, not_from_true, both_ways}
use Rattle.std.proofs.lemmas.Nat.{mul-le}
use Rattle.std.proofs.lemmas.Int.{ints}
use Rattle.word36.specs.Words.{is_negative, signed_value}
use Rattle.std.specs.Int.{int_div_euclid, int_rem_euclid}
use Rattle.ka_word.specs.Magnitudes.{is_past, low_of, magnitude, product_is_negative, signs_differ, size_of_product, wide}
use Rattle.ka_word.specs.Numbers.{fits, word_of}
use Rattle.ka_word.specs.Products.{both_least, high_word, low_word, overflows, signed_product}
use Rattle.ka_word.specs.Laws.{FitsWord, double_value}
use Rattle.ka_word.proofs.Signed.{of_sign, of_sign-product, of_sign-zero, of_sign-below_zero, signed_parts}
use Rattle.ka_word.proofs.Signed.{signed_high, signed_low, magnitude_le, magnitude_less}

-- the product by its sign and size
pub product_value : (a b : ℕ) → a < 2 ^ 36 → b < 2 ^ 36 → signed_value a *ℤ signed_value b ≡ of_sign (product_is_negative a b) (size_of_product a b)
product_value a b ha hb =
    ap (λ (x : ℤ). x *ℤ signed_value b) (signed_parts a ha) ∙ ap (λ (y : ℤ). of_sign (is_negative a) (magnitude a) *ℤ y) (signed_parts b hb)
    ∙ of_sign-product (is_negative a) (is_negative b) (magnitude a) (magnitude b) ∙ of_sign-zero (signs_differ a b) (size_of_product a b)

size_le : (m n : ℕ) → m ≤ 2 ^ 35 → n ≤ 2 ^ 35 - 1 → m * n < 2 ^ 70
size_le m n p q = let h : m * n ≤ 2 ^ 35 * (2 ^ 35 - 1) = mul-le m n (2 ^ 35) (2 ^ 35 - 1) p q in omega arith

size_le_turned : (m n : ℕ) → m ≤ 2 ^ 35 - 1 → n ≤ 2 ^ 35 → m * n < 2 ^ 70
size_le_turned m n p q = let h : m * n ≤ (2 ^ 35 - 1) * 2 ^ 35 = mul-le m n (2 ^ 35 - 1) (2 ^ 35) p q in omega arith

pub size_small : (a b : ℕ) → a < 2 ^ 36 → b < 2 ^ 36 → both_least a b ≡ false → size_of_product a b < 2 ^ 70
size_small a b ha hb h = elim (cases_eq a (2 ^ 35)) [
  | inl p ↦
      size_le (magnitude a) (magnitude b) (magnitude_le a ha)
      (magnitude_less b hb
      (λ q. both_ways (both_least a b) h
      (and_from (nat_eq a (2 ^ 35)) (nat_eq b (2 ^ 35)) (eq-eqb a (2 ^ 35) p) (eq-eqb b (2 ^ 35) q))))
  | inr p ↦ size_le_turned (magnitude a) (magnitude b) (magnitude_less a ha p) (magnitude_le b hb)
]

size_most : (a b : ℕ) → a < 2 ^ 36 → b < 2 ^ 36 → size_of_product a b ≤ 2 ^ 70
size_most a b ha hb = let h : magnitude a * magnitude b ≤ 2 ^ 35 * 2 ^ 35 =
    mul-le (magnitude a) (magnitude b) (2 ^ 35) (2 ^ 35) (magnitude_le a ha) (magnitude_le b hb) in h

some_size : (d : Bool) (s : ℕ) → (d && not (nat_eq s 0)) ≡ true → 0 < s
some_size d s h = let n = eqb-false s 0 (not-true (nat_eq s 0) (and_parts d (not (nat_eq s 0)) h).1) in
    elim (cases_eq s 0) [ inl e ↦ absurd (n e) | inr e ↦ (omega (arith, e)) ]

size_some : (a b : ℕ) → product_is_negative a b ≡ true → 0 < size_of_product a b
size_some a b h = some_size (signs_differ a b) (size_of_product a b) h

-- the definitions over sign and size
high_by : (n : Bool) (s : ℕ) → s ≤ 2 ^ 70 → (n ≡ true → 0 < s) → word_of (int_div_euclid (of_sign n s) (pos (2 ^ 35))) ≡ wide n s / 2 ^ 35
high_by true zero h p = absurd (let q : 0 < 0 = p refl in omega (arith, q))
high_by true (suc s) h p = omega arith
high_by false s h p = omega arith

low_by : (n : Bool) (s : ℕ) → (n ≡ true → 0 < s) → s ≤ 2 ^ 70 → (cond n (2 ^ 35) 0) + unsigned_abs (int_rem_euclid (of_sign n s) (pos (2 ^ 35))) ≡ low_of n s
low_by true zero p h = absurd (let q : 0 < 0 = p refl in omega (arith, q))
low_by true (suc s) p h = omega arith
low_by false s p h = refl

pub high_is : (a b : ℕ) → a < 2 ^ 36 → b < 2 ^ 36 → high_word a b ≡ wide (product_is_negative a b) (size_of_product a b) / 2 ^ 35
unfolding high_word
high_is a b ha hb =
    ap (λ (z : ℤ). word_of (int_div_euclid z (pos (2 ^ 35)))) (product_value a b ha hb)
    ∙ high_by (product_is_negative a b) (size_of_product a b) (size_most a b ha hb) (size_some a b)

below_zero : (a b : ℕ) → a < 2 ^ 36 → b < 2 ^ 36 → int_lt (signed_value a *ℤ signed_value b) (pos 0) ≡ product_is_negative a b
below_zero a b ha hb =
    ap (λ (z : ℤ). int_lt z (pos 0)) (product_value a b ha hb)
    ∙ of_sign-below_zero (product_is_negative a b) (size_of_product a b) (size_some a b)

pub low_is : (a b : ℕ) → a < 2 ^ 36 → b < 2 ^ 36 → low_word a b ≡ low_of (product_is_negative a b) (size_of_product a b)
unfolding low_word
low_is a b ha hb =
    ap (λ (n : Bool). cond n (2 ^ 35) 0 + unsigned_abs (int_rem_euclid (signed_product a b) (pos (2 ^ 35)))) (below_zero a b ha hb)
    ∙ (ap (λ (z : ℤ). cond (product_is_negative a b) (2 ^ 35) 0 + unsigned_abs (int_rem_euclid z (pos (2 ^ 35)))) (product_value a b ha hb)
    ∙ low_by (product_is_negative a b) (size_of_product a b) (size_some a b) (size_most a b ha hb))

two_words : (n : Bool) (s : ℕ) → s < 2 ^ 70 → (n ≡ true → 0 < s) → double_value (wide n s / 2 ^ 35) (low_of n s) ≡ of_sign n s
two_words true s h p =
    let q : 0 < s = p refl in
    let b : 2 ^ 35 ≤ (2 ^ 71 - s) / 2 ^ 35 = omega arith in
    rw (signed_high ((2 ^ 71 - s) / 2 ^ 35) b) (omega (arith, ints))
two_words false s h p =
    let b : s / 2 ^ 35 < 2 ^ 35 = omega arith in
    rw (signed_low (s / 2 ^ 35) b) (omega (arith, ints))

pub product_law : (a b : ℕ) → a < 2 ^ 36 → b < 2 ^ 36 → both_least a b ≡ false → double_value (high_word a b) (low_word a b) ≡ signed_value a *ℤ signed_value b
product_law a b ha hb h =
    ap (λ (x : ℕ). double_value x (low_word a b)) (high_is a b ha hb)
    ∙ ap (λ (y : ℕ). double_value (wide (product_is_negative a b) (size_of_product a b) / 2 ^ 35) y) (low_is a b ha hb)
    ∙ two_words (product_is_negative a b) (size_of_product a b) (size_small a b ha hb h) (size_some a b)
    ∙ sym (product_value a b ha hb)

high_sign : (n : Bool) (s : ℕ) → s < 2 ^ 70 → is_negative (wide n s / 2 ^ 35) ≡ n
high_sign true s h = le-leb (2 ^ 35) ((2 ^ 71 - s) / 2 ^ 35) (omega arith)
high_sign false s h = lt-leb (2 ^ 35) (s / 2 ^ 35) (omega arith)

low_sign : (n : Bool) (s : ℕ) → is_negative (low_of n s) ≡ n
low_sign true s = le-leb (2 ^ 35) (2 ^ 35 + (2 ^ 71 - s) % 2 ^ 35) (omega arith)
low_sign false s = lt-leb (2 ^ 35) (0 + s % 2 ^ 35) (omega arith)

pub signs_law : (a b : ℕ) → a < 2 ^ 36 → b < 2 ^ 36 → both_least a b ≡ false
    → (is_negative (high_word a b) ≡ int_lt (signed_value a *ℤ signed_value b) (pos 0))
    × (is_negative (low_word a b) ≡ int_lt (signed_value a *ℤ signed_value b) (pos 0))
signs_law a b ha hb h = (
  ap is_negative (high_is a b ha hb) ∙ high_sign (product_is_negative a b) (size_of_product a b) (size_small a b ha hb h) ∙ sym (below_zero a b ha hb),
  ap is_negative (low_is a b ha hb) ∙ low_sign (product_is_negative a b) (size_of_product a b) ∙ sym (below_zero a b ha hb),
)

fits_by : (n : Bool) (s : ℕ) → is_past n s ≡ false → FitsWord (of_sign n s)
fits_by true s h = let p = ltb-false (2 ^ 35) s h in (omega (arith, ints), omega (arith, ints))
fits_by false s h = let p = leb-false (2 ^ 35) s h in (omega (arith, ints), omega (arith, ints))

past_by : (n : Bool) (s : ℕ) → FitsWord (of_sign n s) → is_past n s ≡ false
past_by true s h = le-ltb (2 ^ 35) s (omega (arith, ints))
past_by false s h = lt-leb (2 ^ 35) s (omega (arith, ints))

-- the test and the statement
fits_test : (z : ℤ) → (not (fits z) ≡ false) ↔ FitsWord z
fits_test (pos n) = (
  (λ h. let p : n < 2 ^ 35 = ltb-true n (2 ^ 35) (not-false (nat_lt n (2 ^ 35)) h) in (omega (arith, ints), omega (arith, ints))),
  (λ f. not_from_true (nat_lt n (2 ^ 35)) (lt-ltb n (2 ^ 35) (omega (arith, ints)))),
)
fits_test (negsuc n) = (
  (λ h. let p : n ≤ 2 ^ 35 - 1 =
      leb-true n (2 ^ 35 - 1) (and_parts (nat_le n (2 ^ 35 - 1)) true (not-false (nat_le n (2 ^ 35 - 1) && true) h)).0 in
      (omega (arith, ints), omega (arith, ints))),
  (λ f. not_from_true (nat_le n (2 ^ 35 - 1) && true) (and_from (nat_le n (2 ^ 35 - 1)) true (le-leb n (2 ^ 35 - 1) (omega (arith, ints))) refl)),
)

pub fits_law : (a b : ℕ) → a < 2 ^ 36 → b < 2 ^ 36 → (overflows a b ≡ false) ↔ FitsWord (signed_value a *ℤ signed_value b)
unfolding overflows
fits_law a b ha hb = fits_test (signed_product a b)

past_is : (x y : Bool) → (x ≡ false → y ≡ false) → (y ≡ false → x ≡ false) → x ≡ y
past_is true true p q = refl
past_is true false p q = q refl
past_is false true p q = sym (p refl)
past_is false false p q = refl

pub overflows_is : (a b : ℕ) → a < 2 ^ 36 → b < 2 ^ 36 → overflows a b ≡ is_past (product_is_negative a b) (size_of_product a b)
overflows_is a b ha hb =
    let n : Bool = product_is_negative a b in
    let s : ℕ = size_of_product a b in
    past_is (overflows a b) (is_past (product_is_negative a b) (size_of_product a b))
    (λ h. past_by (product_is_negative a b) (size_of_product a b) (subst FitsWord (product_value a b ha hb) ((fits_law a b ha hb).0 h)))
    (λ h. (fits_law a b ha hb).1 (subst FitsWord (sym (product_value a b ha hb)) (fits_by (product_is_negative a b) (size_of_product a b) h)))

low_value : (n : Bool) (s : ℕ) → is_past n s ≡ false → (n ≡ true → 0 < s) → signed_value (low_of n s) ≡ of_sign n s
low_value true s h p =
    let q : 0 < s = p refl in
    let k = ltb-false (2 ^ 35) s h in
    rw (signed_high (2 ^ 35 + (2 ^ 71 - s) % 2 ^ 35) (omega arith)) (omega (arith, ints))
low_value false s h p =
    let k = leb-false (2 ^ 35) s h in
    rw (signed_low (0 + s % 2 ^ 35) (omega arith)) (omega (arith, ints))

pub whole_law : (a b : ℕ) → a < 2 ^ 36 → b < 2 ^ 36 → overflows a b ≡ false → signed_value (low_word a b) ≡ signed_value a *ℤ signed_value b
whole_law a b ha hb h =
    ap signed_value (low_is a b ha hb)
    ∙ low_value (product_is_negative a b) (size_of_product a b) (sym (overflows_is a b ha hb) ∙ h) (size_some a b)
    ∙ sym (product_value a b ha hb)

pub ruleset split_products = (high_is, low_is, overflows_is)
