-- Signed numbers by sign and magnitude.
use Rattle.std.proofs.Common.{◌≡◌, ◌∙◌, ℕ, zero, suc, ◌-◌, ◌*◌, ◌^◌, ◌<◌, ◌≤◌, ◌⊎◌, inl, inr, Bool, true, false, not, cond, ◌&&◌}
use Rattle.std.proofs.Common.{nat_eq, ℤ, pos, neg_ℤ, ◌+ℤ◌, ◌-ℤ◌, ◌*ℤ◌, int_lt, unsigned_abs, refl, arith}
use Rattle.std.proofs.lemmas.Bool.{lt-leb, le-leb, le-ltb, ne_eqb, cases_lt}
use Rattle.std.proofs.lemmas.Int.{ints}
use Rattle.std.proofs.Math.IntN.{negsuc-*ℤ-pos, pos-*ℤ-negsuc}
use Rattle.word36.specs.Words.{is_negative, signed_value}
use Rattle.ka_word.specs.Magnitudes.{magnitude}

pub signed_low : (w : ℕ) → w < 2 ^ 35 → signed_value w ≡ pos w
signed_low w h = rw (lt-leb (2 ^ 35) w h) refl

pub signed_high : (w : ℕ) → 2 ^ 35 ≤ w → signed_value w ≡ pos w -ℤ pos (2 ^ 36)
signed_high w h = rw (le-leb (2 ^ 35) w h) refl

pub signed_minus : (w : ℕ) → 2 ^ 35 ≤ w → w < 2 ^ 36 → signed_value w ≡ neg_ℤ (pos (2 ^ 36 - w))
signed_minus w h b = signed_high w h ∙ omega (arith, ints)

-- a word is its own value, or 2 ^ 36 more
abbrev pub Reads : ℕ → ℤ → Type 0
Reads w z = ((w < 2 ^ 35) × (z ≡ pos w)) ⊎ ((2 ^ 35 ≤ w) × (z +ℤ pos (2 ^ 36) ≡ pos w))

pub reads : (w : ℕ) → Reads w (signed_value w)
reads w = elim (cases_lt w (2 ^ 35)) [
  | inl h ↦ inl (h, signed_low w h)
  | inr h ↦ inr (h, rw (le-leb (2 ^ 35) w h) (omega (arith, ints)))
]

-- the number of a sign and a magnitude
abbrev pub of_sign : Bool → ℕ → ℤ
of_sign true m = neg_ℤ (pos m)
of_sign false m = pos m

pub signed_parts : (w : ℕ) → w < 2 ^ 36 → signed_value w ≡ of_sign (is_negative w) (magnitude w)
signed_parts w b = elim (cases_lt w (2 ^ 35)) [
  | inl h ↦ rw (lt-leb (2 ^ 35) w h) refl
  | inr h ↦ signed_minus w h b ∙ rw (le-leb (2 ^ 35) w h) refl
]

pub neg_mul : (m n : ℕ) → neg_ℤ (pos m) *ℤ pos n ≡ neg_ℤ (pos (m * n))
neg_mul zero n = let e : 0 * n ≡ 0 = omega arith in rw e refl
neg_mul (suc m) n = negsuc-*ℤ-pos m n

pub mul_neg : (m n : ℕ) → pos m *ℤ neg_ℤ (pos n) ≡ neg_ℤ (pos (m * n))
mul_neg m zero = let e : m * 0 ≡ 0 = omega arith in rw e refl
mul_neg m (suc n) = pos-*ℤ-negsuc m n

pub neg_neg : (m n : ℕ) → neg_ℤ (pos m) *ℤ neg_ℤ (pos n) ≡ pos (m * n)
neg_neg zero n = let e : 0 * n ≡ 0 = omega arith in mul_neg 0 n ∙ rw e refl
neg_neg (suc m) zero = let e : suc m * 0 ≡ 0 = omega arith in negsuc-*ℤ-pos m 0 ∙ rw e refl
neg_neg (suc m) (suc n) = refl

pub of_sign-product : (s t : Bool) (m n : ℕ) → of_sign s m *ℤ of_sign t n ≡ of_sign (cond s (not t) t) (m * n)
of_sign-product true true m n = neg_neg m n
of_sign-product true false m n = neg_mul m n
of_sign-product false true m n = mul_neg m n
of_sign-product false false m n = refl

pub of_sign-zero : (d : Bool) (s : ℕ) → of_sign d s ≡ of_sign (d && not (nat_eq s 0)) s
of_sign-zero true zero = refl
of_sign-zero true (suc s) = rw (ne_eqb (suc s) 0 (λ e. omega (arith, e))) refl
of_sign-zero false s = refl

pub abs_of_sign : (s : Bool) (m : ℕ) → unsigned_abs (of_sign s m) ≡ m
abs_of_sign true zero = refl
abs_of_sign true (suc m) = refl
abs_of_sign false m = refl

pub of_sign-below_zero : (s : Bool) (m : ℕ) → (s ≡ true → 0 < m) → int_lt (of_sign s m) (pos 0) ≡ s
of_sign-below_zero true zero h = absurd (let p : 0 < 0 = h refl in omega (arith, p))
of_sign-below_zero true (suc m) h = refl
of_sign-below_zero false m h = le-ltb m 0 (omega arith)

pub magnitude_low : (w : ℕ) → w < 2 ^ 35 → magnitude w ≡ w
magnitude_low w h = rw (lt-leb (2 ^ 35) w h) refl

pub magnitude_high : (w : ℕ) → 2 ^ 35 ≤ w → magnitude w ≡ 2 ^ 36 - w
magnitude_high w h = rw (le-leb (2 ^ 35) w h) refl

pub magnitude_le : (w : ℕ) → w < 2 ^ 36 → magnitude w ≤ 2 ^ 35
magnitude_le w b = elim (cases_lt w (2 ^ 35)) [
  | inl h ↦ rw (lt-leb (2 ^ 35) w h) (omega arith)
  | inr h ↦ rw (le-leb (2 ^ 35) w h) (omega arith)
]

-- the least number alone has the greatest magnitude
pub magnitude_less : (w : ℕ) → w < 2 ^ 36 → (w ≡ 2 ^ 35 → ⊥) → magnitude w ≤ 2 ^ 35 - 1
magnitude_less w b n = elim (cases_lt w (2 ^ 35)) [
  | inl h ↦ rw (lt-leb (2 ^ 35) w h) (omega arith)
  | inr h ↦ rw (le-leb (2 ^ 35) w h) (elim (cases_lt (2 ^ 35) w) [
    | inl k ↦ omega arith
    | inr k ↦ absurd (n (omega arith))
  ])
]
