-- Sums, differences and negation of signed numbers.
use Rattle.std.proofs.Common.{◌≡◌, ◌≢◌, ◌↔◌, ◌∙◌, ℕ, ◌+◌, ◌%◌, ◌^◌, ◌<◌, ◌≤◌, ◌⊎◌, inl, inr, Bool, true, false, ℤ}
use Rattle.std.proofs.Common.{pos, negsuc, neg_ℤ, ◌+ℤ◌, ◌-ℤ◌, refl, sym, arith, nat_le}
use Rattle.std.proofs.lemmas.Bool.{leb-true, leb-false, cases_Bool}
use Rattle.std.proofs.lemmas.Int.{ints}
use Rattle.word36.specs.Words.{signed_value, sum_of, complement}
use Rattle.ka_word.specs.Sums.{carries_differ, negated, sum_overflows}
use Rattle.ka_word.specs.Laws.{FitsWord}
use Rattle.ka_word.proofs.Signed.{Reads, reads}

-- both carries, or none
abbrev Alike : ℕ → ℕ → ℕ → Type 0
Alike a b c = ((2 ^ 36 ≤ a + b + c) × (2 ^ 35 ≤ a % 2 ^ 35 + b % 2 ^ 35 + c)) ⊎ ((a + b + c < 2 ^ 36) × (a % 2 ^ 35 + b % 2 ^ 35 + c < 2 ^ 35))

-- one of them
abbrev Unlike : ℕ → ℕ → ℕ → Type 0
Unlike a b c = ((2 ^ 36 ≤ a + b + c) × (a % 2 ^ 35 + b % 2 ^ 35 + c < 2 ^ 35)) ⊎ ((a + b + c < 2 ^ 36) × (2 ^ 35 ≤ a % 2 ^ 35 + b % 2 ^ 35 + c))

by_carries : (m n x y : ℕ) (s t : Bool) → nat_le m x ≡ s → nat_le n y ≡ t → carries_differ s t ≡ false → ((m ≤ x) × (n ≤ y)) ⊎ ((x < m) × (y < n))
by_carries m n x y true true p q h = inl (leb-true m x p, leb-true n y q)
by_carries m n x y true false p q h = cc
by_carries m n x y false true p q h = cc
by_carries m n x y false false p q h = inr (leb-false m x p, leb-false n y q)

by_unlike : (m n x y : ℕ) (s t : Bool) → nat_le m x ≡ s → nat_le n y ≡ t → carries_differ s t ≡ true → ((m ≤ x) × (y < n)) ⊎ ((x < m) × (n ≤ y))
by_unlike m n x y true true p q h = cc
by_unlike m n x y true false p q h = inl (leb-true m x p, leb-false n y q)
by_unlike m n x y false true p q h = inr (leb-false m x p, leb-true n y q)
by_unlike m n x y false false p q h = cc

alike : (a b c : ℕ) → sum_overflows a b c ≡ false → Alike a b c
alike a b c h = by_carries (2 ^ 36) (2 ^ 35) (a + b + c) (a % 2 ^ 35 + b % 2 ^ 35 + c) _ _ refl refl h

unlike : (a b c : ℕ) → sum_overflows a b c ≡ true → Unlike a b c
unlike a b c h = by_unlike (2 ^ 36) (2 ^ 35) (a + b + c) (a % 2 ^ 35 + b % 2 ^ 35 + c) _ _ refl refl h

sum_reads : (a b c s : ℕ) (x y z : ℤ) → a < 2 ^ 36 → b < 2 ^ 36 → c ≤ 1 → s ≡ (a + b + c) % 2 ^ 36 → Reads a x → Reads b y
    → Reads s z → Alike a b c
    → z ≡ x +ℤ y +ℤ pos c
sum_reads a b c s x y z ha hb hc e (inl p) (inl q) (inl r) (inl k) = omega (arith, ints)
sum_reads a b c s x y z ha hb hc e (inl p) (inl q) (inl r) (inr k) = omega (arith, ints)
sum_reads a b c s x y z ha hb hc e (inl p) (inl q) (inr r) (inl k) = omega (arith, ints)
sum_reads a b c s x y z ha hb hc e (inl p) (inl q) (inr r) (inr k) = omega (arith, ints)
sum_reads a b c s x y z ha hb hc e (inl p) (inr q) (inl r) (inl k) = omega (arith, ints)
sum_reads a b c s x y z ha hb hc e (inl p) (inr q) (inl r) (inr k) = omega (arith, ints)
sum_reads a b c s x y z ha hb hc e (inl p) (inr q) (inr r) (inl k) = omega (arith, ints)
sum_reads a b c s x y z ha hb hc e (inl p) (inr q) (inr r) (inr k) = omega (arith, ints)
sum_reads a b c s x y z ha hb hc e (inr p) (inl q) (inl r) (inl k) = omega (arith, ints)
sum_reads a b c s x y z ha hb hc e (inr p) (inl q) (inl r) (inr k) = omega (arith, ints)
sum_reads a b c s x y z ha hb hc e (inr p) (inl q) (inr r) (inl k) = omega (arith, ints)
sum_reads a b c s x y z ha hb hc e (inr p) (inl q) (inr r) (inr k) = omega (arith, ints)
sum_reads a b c s x y z ha hb hc e (inr p) (inr q) (inl r) (inl k) = omega (arith, ints)
sum_reads a b c s x y z ha hb hc e (inr p) (inr q) (inl r) (inr k) = omega (arith, ints)
sum_reads a b c s x y z ha hb hc e (inr p) (inr q) (inr r) (inl k) = omega (arith, ints)
sum_reads a b c s x y z ha hb hc e (inr p) (inr q) (inr r) (inr k) = omega (arith, ints)

reads_fit : (s : ℕ) (z : ℤ) → s < 2 ^ 36 → Reads s z → FitsWord z
reads_fit s z h (inl p) = (omega (arith, ints), omega (arith, ints))
reads_fit s z h (inr p) = (omega (arith, ints), omega (arith, ints))

sum_past : (a b c : ℕ) (x y z : ℤ) → a < 2 ^ 36 → b < 2 ^ 36 → c ≤ 1 → Reads a x → Reads b y → Unlike a b c → z ≡ x +ℤ y +ℤ pos c → FitsWord z → ⊥
sum_past a b c x y z ha hb hc (inl p) (inl q) (inl k) e f = omega (arith, ints)
sum_past a b c x y z ha hb hc (inl p) (inl q) (inr k) e f = omega (arith, ints)
sum_past a b c x y z ha hb hc (inl p) (inr q) (inl k) e f = omega (arith, ints)
sum_past a b c x y z ha hb hc (inl p) (inr q) (inr k) e f = omega (arith, ints)
sum_past a b c x y z ha hb hc (inr p) (inl q) (inl k) e f = omega (arith, ints)
sum_past a b c x y z ha hb hc (inr p) (inl q) (inr k) e f = omega (arith, ints)
sum_past a b c x y z ha hb hc (inr p) (inr q) (inl k) e f = omega (arith, ints)
sum_past a b c x y z ha hb hc (inr p) (inr q) (inr k) e f = omega (arith, ints)

sum_value : (a b c : ℕ) → a < 2 ^ 36 → b < 2 ^ 36 → c ≤ 1 → sum_overflows a b c ≡ false
    → signed_value (sum_of a b c) ≡ signed_value a +ℤ signed_value b +ℤ pos c
sum_value a b c ha hb hc h =
    sum_reads a b c (sum_of a b c) (signed_value a) (signed_value b) (signed_value (sum_of a b c)) ha hb hc refl (reads a)
    (reads b) (reads (sum_of a b c)) (alike a b c h)

sum_below : (a b c : ℕ) → sum_of a b c < 2 ^ 36
sum_below a b c = omega arith

sum_fits : (a b c : ℕ) (z : ℤ) → a < 2 ^ 36 → b < 2 ^ 36 → c ≤ 1 → z ≡ signed_value a +ℤ signed_value b +ℤ pos c → (sum_overflows a b c ≡ false) ↔ FitsWord z
sum_fits a b c z ha hb hc e = (
  (λ h. reads_fit (sum_of a b c) z (sum_below a b c)
      (let v : signed_value (sum_of a b c) ≡ z = sum_value a b c ha hb hc h ∙ sym e in rw v at (reads (sum_of a b c)))),
  (λ f. elim (cases_Bool (sum_overflows a b c)) [
    | inl k ↦ absurd (sum_past a b c (signed_value a) (signed_value b) z ha hb hc (reads a) (reads b) (unlike a b c k) e f)
    | inr k ↦ k
  ]),
)

-- the value of all bits turned round
complement_reads : (w : ℕ) (x y : ℤ) → w < 2 ^ 36 → Reads w x → Reads (complement w) y → x +ℤ y ≡ negsuc 0
complement_reads w x y h (inl p) (inl q) = omega (arith, ints)
complement_reads w x y h (inl p) (inr q) = omega (arith, ints)
complement_reads w x y h (inr p) (inl q) = omega (arith, ints)
complement_reads w x y h (inr p) (inr q) = omega (arith, ints)

pub complement_value : (w : ℕ) → w < 2 ^ 36 → signed_value w +ℤ signed_value (complement w) ≡ negsuc 0
complement_value w h = complement_reads w (signed_value w) (signed_value (complement w)) h (reads w) (reads (complement w))

complement_below : (w : ℕ) → complement w < 2 ^ 36
complement_below w = omega arith

-- over plain numbers
plus_zero : (x y : ℤ) → x +ℤ y ≡ x +ℤ y +ℤ pos 0
plus_zero x y = omega (arith, ints)

minus_by_complement : (x y n : ℤ) → y +ℤ n ≡ negsuc 0 → x -ℤ y ≡ x +ℤ n +ℤ pos 1
minus_by_complement x y n e = omega (arith, ints)

pub add_fits_law : (a b : ℕ) → a < 2 ^ 36 → b < 2 ^ 36 → (sum_overflows a b 0 ≡ false) ↔ FitsWord (signed_value a +ℤ signed_value b)
add_fits_law a b ha hb = sum_fits a b 0 (signed_value a +ℤ signed_value b) ha hb (omega arith) (plus_zero (signed_value a) (signed_value b))

pub add_law : (a b : ℕ) → a < 2 ^ 36 → b < 2 ^ 36 → sum_overflows a b 0 ≡ false → signed_value (sum_of a b 0) ≡ signed_value a +ℤ signed_value b
add_law a b ha hb h = sum_value a b 0 ha hb (omega arith) h ∙ sym (plus_zero (signed_value a) (signed_value b))

difference : (a b : ℕ) → b < 2 ^ 36 → signed_value a -ℤ signed_value b ≡ signed_value a +ℤ signed_value (complement b) +ℤ pos 1
difference a b hb = minus_by_complement (signed_value a) (signed_value b) (signed_value (complement b)) (complement_value b hb)

pub sub_fits_law : (a b : ℕ) → a < 2 ^ 36 → b < 2 ^ 36 → (sum_overflows a (complement b) 1 ≡ false) ↔ FitsWord (signed_value a -ℤ signed_value b)
sub_fits_law a b ha hb = sum_fits a (complement b) 1 (signed_value a -ℤ signed_value b) ha (complement_below b) (omega arith) (difference a b hb)

pub sub_law : (a b : ℕ) → a < 2 ^ 36 → b < 2 ^ 36 → sum_overflows a (complement b) 1 ≡ false
    → signed_value (sum_of a (complement b) 1) ≡ signed_value a -ℤ signed_value b
sub_law a b ha hb h = sum_value a (complement b) 1 ha (complement_below b) (omega arith) h ∙ sym (difference a b hb)

-- the negated number is the complement and 1
negative_is : (x n : ℤ) → x +ℤ n ≡ negsuc 0 → neg_ℤ x ≡ n +ℤ pos 1 +ℤ pos 0
negative_is x n e = omega (arith, ints)

negative_value : (a : ℕ) → a < 2 ^ 36 → neg_ℤ (signed_value a) ≡ signed_value (complement a) +ℤ signed_value 1 +ℤ pos 0
negative_value a h = negative_is (signed_value a) (signed_value (complement a)) (complement_value a h)

least_negative : (a : ℕ) (x : ℤ) → a < 2 ^ 36 → Reads a x → FitsWord (neg_ℤ x) → a ≢ 2 ^ 35
least_negative a x h (inl p) f = λ e. omega (arith, ints, e)
least_negative a x h (inr p) f = λ e. omega (arith, ints, e)

other_negative : (a : ℕ) (x : ℤ) → a < 2 ^ 36 → Reads a x → a ≢ 2 ^ 35 → FitsWord (neg_ℤ x)
other_negative a x h (inl p) n = (omega (arith, ints), omega (arith, ints))
other_negative a x h (inr p) n = (omega (arith, ints), omega (arith, ints))

negative_fits : (a : ℕ) → a < 2 ^ 36 → (sum_overflows (complement a) 1 0 ≡ false) ↔ FitsWord (neg_ℤ (signed_value a))
negative_fits a h = sum_fits (complement a) 1 0 (neg_ℤ (signed_value a)) (complement_below a) (omega arith) (omega arith) (negative_value a h)

pub negate_fits_law : (a : ℕ) → a < 2 ^ 36 → (sum_overflows (complement a) 1 0 ≡ false) ↔ (a ≢ 2 ^ 35)
negate_fits_law a h = (
  (λ k. least_negative a (signed_value a) h (reads a) ((negative_fits a h).0 k)),
  (λ n. (negative_fits a h).1 (other_negative a (signed_value a) h (reads a) n)),
)

pub negate_law : (a : ℕ) → a < 2 ^ 36 → a ≢ 2 ^ 35 → signed_value (negated a) ≡ neg_ℤ (signed_value a)
negate_law a h n = sum_value (complement a) 1 0 (complement_below a) (omega arith) (omega arith) ((negate_fits_law a h).1 n) ∙ sym (negative_value a h)
