-- Quotients and remainders of signed numbers.
use Rattle.std.proofs.Common.{◌≡◌, ◌↔◌, ◌∙◌, ℕ, zero, suc, ◌-◌, ◌*◌, ◌/◌, ◌%◌, ◌^◌, ◌<◌, ◌≤◌, ◌⊎◌, inl, inr, Bool, true, false, not, cond, ◌&&◌}
use Rattle.std.proofs.Common.{nat_eq, ℤ, pos, negsuc, ◌+ℤ◌, ◌*ℤ◌, int_div, int_rem, unsigned_abs, refl, sym, subst, ap, arith}
use Rattle.std.proofs.lemmas.Bool.{lt-leb, le-leb, eqb-true, eqb-false, eq-eqb, or_parts, or_cases, and_parts}
use Rattle.std.proofs.lemmas.Bool.{and_from, cases_eq, cases_lt, both_ways, true_from_ne_false}
use Rattle.std.proofs.lemmas.Nat.{mul-le, div-add-mod'}
use Rattle.std.proofs.lemmas.Int.{ints, quot-rem, rem_below}
use Rattle.std.proofs.Math.Nat.{div-le_self, mod-le}
use Rattle.word36.specs.Words.{is_negative, signed_value}
use Rattle.ka_word.specs.Magnitudes.{magnitude, signs_differ, with_sign}
use Rattle.ka_word.specs.Numbers.{word_of}
use Rattle.ka_word.specs.Quotients.{no_quotient, quotient_of, remainder_of}
use Rattle.ka_word.proofs.Signed.{Reads, reads, of_sign, abs_of_sign, signed_parts, signed_high, signed_low}
use Rattle.ka_word.proofs.Signed.{magnitude_le, magnitude_less, magnitude_low, magnitude_high}

zero_over : (y : ℕ) → 0 / suc y ≡ 0
zero_over y = omega (arith, div-le_self 0 (suc y))

zero_rest : (y : ℕ) → 0 % y ≡ 0
zero_rest y = omega (arith, mod-le 0 y)

div_signs : (s t : Bool) (x y : ℕ) → int_div (of_sign s x) (of_sign t (suc y)) ≡ of_sign (cond s (not t) t) (x / suc y)
div_signs true true zero y = rw (zero_over y) refl
div_signs true true (suc x) y = refl
div_signs true false zero y = rw (zero_over y) refl
div_signs true false (suc x) y = refl
div_signs false true x y = refl
div_signs false false x y = refl

rem_signs : (s : Bool) (x : ℕ) (d : ℤ) → int_rem (of_sign s x) d ≡ of_sign s (x % unsigned_abs d)
rem_signs true zero d = rw (zero_rest (unsigned_abs d)) refl
rem_signs true (suc x) d = refl
rem_signs false x d = refl

div_by_sign : (s t : Bool) (x y : ℕ) → 0 < y → int_div (of_sign s x) (of_sign t y) ≡ of_sign (cond s (not t) t) (x / y)
div_by_sign s t x zero h = absurd (omega arith)
div_by_sign s t x (suc y) h = div_signs s t x y

-- the value of the word of a sign and a magnitude
sign_value : (s : Bool) (m : ℕ) → m ≤ 2 ^ 35 → (s ≡ false → m < 2 ^ 35) → signed_value (with_sign s m) ≡ of_sign s m
sign_value true zero h p = refl
sign_value true (suc m) h p = rw (signed_high ((2 ^ 36 - suc m) % 2 ^ 36) (omega arith)) (omega (arith, ints))
sign_value false m h p = signed_low m (p refl)

-- a divisor that is not 0 has some magnitude
size_some : (m : ℕ) → m < 2 ^ 36 → (m ≡ 0 → ⊥) → 0 < magnitude m
size_some m b n = elim (cases_lt m (2 ^ 35)) [
  | inl h ↦ rw (magnitude_low m h) (elim (cases_lt 0 m) [ inl k ↦ k | inr k ↦ absurd (n (omega arith)) ])
  | inr h ↦ rw (magnitude_high m h) (omega arith)
]

not_zero : (a m : ℕ) → no_quotient a m ≡ false → m ≡ 0 → ⊥
not_zero a m h e = eqb-false m 0 (or_parts (nat_eq m 0) (nat_eq a (2 ^ 35) && nat_eq m (2 ^ 36 - 1)) h).0 e

not_past : (a m : ℕ) → no_quotient a m ≡ false → a ≡ 2 ^ 35 → m ≡ 2 ^ 36 - 1 → ⊥
not_past a m h e f =
    both_ways (nat_eq a (2 ^ 35) && nat_eq m (2 ^ 36 - 1))
    (or_parts (nat_eq m 0) (nat_eq a (2 ^ 35) && nat_eq m (2 ^ 36 - 1)) h).1
    (and_from (nat_eq a (2 ^ 35)) (nat_eq m (2 ^ 36 - 1)) (eq-eqb a (2 ^ 35) e) (eq-eqb m (2 ^ 36 - 1) f))

half_at_most : (x y : ℕ) → x ≤ 2 ^ 35 → 2 ≤ y → x / y < 2 ^ 35
half_at_most x y h k = elim (cases_lt (x / y) (2 ^ 35)) [
  | inl p ↦ p
  | inr p ↦ absurd (let q : 2 ^ 35 * 2 ≤ x = too_much x y (x / y) k p (whole_part x y) in omega arith)
]
  where
    whole_part : (x y : ℕ) → x / y * y ≤ x
    whole_part x y = omega (arith, div-add-mod' x y)

    too_much : (x y q : ℕ) → 2 ≤ y → 2 ^ 35 ≤ q → q * y ≤ x → 2 ^ 35 * 2 ≤ x
    too_much x y q k p h = let e : 2 ^ 35 * 2 ≤ q * y = mul-le (2 ^ 35) 2 q y p k in omega arith

-- where the signs are the same the quotient is below 2 ^ 35
quotient_small : (a m : ℕ) → a < 2 ^ 36 → m < 2 ^ 36 → no_quotient a m ≡ false → signs_differ a m ≡ false → magnitude a / magnitude m < 2 ^ 35
quotient_small a m ha hm h d = elim (cases_eq a (2 ^ 35)) [
  | inl p ↦ half_at_most (magnitude a) (magnitude m) (magnitude_le a ha) (at_least_two a m hm h d p)
  | inr p ↦ (let k = magnitude_less a ha p in let l = div-le_self (magnitude a) (magnitude m) in omega arith)
]
  where
    above : (m : ℕ) → m < 2 ^ 36 → (m ≡ 2 ^ 36 - 1 → ⊥) → 2 ≤ 2 ^ 36 - m
    above m h n = omega (arith, n)

    apart : (s t : Bool) → s ≡ true → t ≡ false → cond s (not t) t ≡ false → ⊥
    apart true true p q h = cc
    apart true false p q h = cc
    apart false true p q h = cc
    apart false false p q h = cc

    at_least_two : (a m : ℕ) → m < 2 ^ 36 → no_quotient a m ≡ false → signs_differ a m ≡ false → a ≡ 2 ^ 35 → 2 ≤ magnitude m
    at_least_two a m hm h d p = elim (cases_lt m (2 ^ 35)) [
      | inl k ↦
          (let s : is_negative m ≡ false = lt-leb (2 ^ 35) m k in
          let t : is_negative a ≡ true = le-leb (2 ^ 35) a (omega arith) in absurd (apart (is_negative a) (is_negative m) t s d))
      | inr k ↦ rw (magnitude_high m k) (elim (cases_eq m (2 ^ 36 - 1)) [
        | inl e ↦ absurd (not_past a m h p e)
        | inr n ↦ above m hm n
      ])
    ]

quotient_most : (a m : ℕ) → a < 2 ^ 36 → magnitude a / magnitude m ≤ 2 ^ 35
quotient_most a m ha = let k = magnitude_le a ha in let l = div-le_self (magnitude a) (magnitude m) in omega arith

-- a word is that of its value
word_reads : (w : ℕ) (z : ℤ) → w < 2 ^ 36 → Reads w z → word_of z ≡ w
word_reads w (pos n) h (inl p) = omega (arith, ints)
word_reads w (pos n) h (inr p) = absurd (omega (arith, ints))
word_reads w (negsuc n) h (inl p) = absurd (omega (arith, ints))
word_reads w (negsuc n) h (inr p) = omega (arith, ints)

word_of_value : (w : ℕ) → w < 2 ^ 36 → word_of (signed_value w) ≡ w
word_of_value w h = word_reads w (signed_value w) h (reads w)

sign_below : (s : Bool) (m : ℕ) → m ≤ 2 ^ 35 → with_sign s m < 2 ^ 36
sign_below true m h = omega arith
sign_below false m h = omega arith

-- the value of the word that the code gives
quotient_sized : (a m : ℕ) → a < 2 ^ 36 → m < 2 ^ 36 → no_quotient a m ≡ false
    → signed_value (with_sign (signs_differ a m) (magnitude a / magnitude m)) ≡ int_div (signed_value a) (signed_value m)
quotient_sized a m ha hm h =
    let e = sign_value (signs_differ a m) (magnitude a / magnitude m) (quotient_most a m ha) (quotient_small a m ha hm h) in
    e
    ∙ sym
    (ap (λ (x : ℤ). int_div x (signed_value m)) (signed_parts a ha)
    ∙ ap (λ (y : ℤ). int_div (of_sign (is_negative a) (magnitude a)) y) (signed_parts m hm)
    ∙ div_by_sign (is_negative a) (is_negative m) (magnitude a) (magnitude m) (size_some m hm (not_zero a m h)))

pub quotient_is : (a m : ℕ) → a < 2 ^ 36 → m < 2 ^ 36 → no_quotient a m ≡ false → quotient_of a m ≡ with_sign (signs_differ a m) (magnitude a / magnitude m)
unfolding quotient_of
quotient_is a m ha hm h =
    ap word_of (sym (quotient_sized a m ha hm h))
    ∙ word_of_value (with_sign (signs_differ a m) (magnitude a / magnitude m))
    (sign_below (signs_differ a m) (magnitude a / magnitude m) (quotient_most a m ha))

pub quotient_law : (a m : ℕ) → a < 2 ^ 36 → m < 2 ^ 36 → no_quotient a m ≡ false → signed_value (quotient_of a m) ≡ int_div (signed_value a) (signed_value m)
quotient_law a m ha hm h = ap signed_value (quotient_is a m ha hm h) ∙ quotient_sized a m ha hm h

rest_small : (a m : ℕ) → a < 2 ^ 36 → is_negative a ≡ false → magnitude a % magnitude m < 2 ^ 35
rest_small a m ha h = elim (cases_lt a (2 ^ 35)) [
  | inl p ↦ (let e = magnitude_low a p in let l = mod-le (magnitude a) (magnitude m) in omega arith)
  | inr p ↦ absurd (both_ways (is_negative a) h (le-leb (2 ^ 35) a p))
]

rest_most : (a m : ℕ) → a < 2 ^ 36 → magnitude a % magnitude m ≤ 2 ^ 35
rest_most a m ha = let k = magnitude_le a ha in let l = mod-le (magnitude a) (magnitude m) in omega arith

rest_sized : (a m : ℕ) → a < 2 ^ 36 → m < 2 ^ 36
    → signed_value (with_sign (is_negative a) (magnitude a % magnitude m)) ≡ int_rem (signed_value a) (signed_value m)
rest_sized a m ha hm =
    let e = sign_value (is_negative a) (magnitude a % magnitude m) (rest_most a m ha) (rest_small a m ha) in
    let d : unsigned_abs (signed_value m) ≡ magnitude m = ap unsigned_abs (signed_parts m hm) ∙ abs_of_sign (is_negative m) (magnitude m) in
    e
    ∙ sym
    (ap (λ (x : ℤ). int_rem x (signed_value m)) (signed_parts a ha) ∙ rem_signs (is_negative a) (magnitude a) (signed_value m)
    ∙ ap (λ (k : ℕ). of_sign (is_negative a) (magnitude a % k)) d)

pub remainder_is : (a m : ℕ) → a < 2 ^ 36 → m < 2 ^ 36 → remainder_of a m ≡ with_sign (is_negative a) (magnitude a % magnitude m)
unfolding remainder_of
remainder_is a m ha hm =
    ap word_of (sym (rest_sized a m ha hm))
    ∙ word_of_value (with_sign (is_negative a) (magnitude a % magnitude m))
    (sign_below (is_negative a) (magnitude a % magnitude m) (rest_most a m ha))

pub remainder_law : (a m : ℕ) → a < 2 ^ 36 → m < 2 ^ 36 → no_quotient a m ≡ false → signed_value (remainder_of a m) ≡ int_rem (signed_value a) (signed_value m)
remainder_law a m ha hm h = ap signed_value (remainder_is a m ha hm) ∙ rest_sized a m ha hm

pub divides_law : (a m : ℕ) → a < 2 ^ 36 → m < 2 ^ 36 → no_quotient a m ≡ false
    → signed_value a ≡ signed_value (quotient_of a m) *ℤ signed_value m +ℤ signed_value (remainder_of a m)
divides_law a m ha hm h = rw (quotient_law a m ha hm h, remainder_law a m ha hm h) (sym (quot-rem (signed_value a) (signed_value m)))

divisor_some : (a m : ℕ) → m < 2 ^ 36 → no_quotient a m ≡ false → 0 < unsigned_abs (signed_value m)
divisor_some a m hm h =
    let d : unsigned_abs (signed_value m) ≡ magnitude m = ap unsigned_abs (signed_parts m hm) ∙ abs_of_sign (is_negative m) (magnitude m) in
    rw d (size_some m hm (not_zero a m h))

pub smaller_law : (a m : ℕ) → a < 2 ^ 36 → m < 2 ^ 36 → no_quotient a m ≡ false → unsigned_abs (signed_value (remainder_of a m)) < unsigned_abs (signed_value m)
smaller_law a m ha hm h = rw (remainder_law a m ha hm h) (rem_below (signed_value a) (signed_value m) (divisor_some a m hm h))

sign_kept : (s : Bool) (r : ℕ) → r ≤ 2 ^ 35 → (s ≡ false → r < 2 ^ 35) → (with_sign s r ≡ 0) ⊎ (is_negative (with_sign s r) ≡ s)
sign_kept true zero h p = inl refl
sign_kept true (suc r) h p = inr (le-leb (2 ^ 35) ((2 ^ 36 - suc r) % 2 ^ 36) (omega arith))
sign_kept false r h p = inr (lt-leb (2 ^ 35) r (p refl))

pub sign_law : (a m : ℕ) → a < 2 ^ 36 → m < 2 ^ 36 → no_quotient a m ≡ false → (remainder_of a m ≡ 0) ⊎ (is_negative (remainder_of a m) ≡ is_negative a)
sign_law a m ha hm h =
    subst (λ (r : ℕ). (r ≡ 0) ⊎ (is_negative r ≡ is_negative a)) (sym (remainder_is a m ha hm))
    (sign_kept (is_negative a) (magnitude a % magnitude m) (rest_most a m ha) (rest_small a m ha))

-- no word has the value 2 ^ 35
no_word : (w : ℕ) (z : ℤ) → w < 2 ^ 36 → Reads w z → z ≡ pos (2 ^ 35) → ⊥
no_word w z h (inl p) e = omega (arith, ints)
no_word w z h (inr p) e = omega (arith, ints)

quotient_below : (a m : ℕ) → a < 2 ^ 36 → m < 2 ^ 36 → no_quotient a m ≡ false → quotient_of a m < 2 ^ 36
quotient_below a m ha hm h = rw (quotient_is a m ha hm h) (sign_below (signs_differ a m) (magnitude a / magnitude m) (quotient_most a m ha))

zero_word : (m : ℕ) (z : ℤ) → m < 2 ^ 36 → Reads m z → z ≡ pos 0 → m ≡ 0
zero_word m z h (inl p) e = omega (arith, ints)
zero_word m z h (inr p) e = absurd (omega (arith, ints))

refused : (a m : ℕ) → (nat_eq m 0 ≡ true) ⊎ ((nat_eq a (2 ^ 35) && nat_eq m (2 ^ 36 - 1)) ≡ true)
    → (signed_value m ≡ pos 0) ⊎ (int_div (signed_value a) (signed_value m) ≡ pos (2 ^ 35))
refused a m (inl p) = let e = eqb-true m 0 p in inl (rw e refl)
refused a m (inr p) =
    let q = and_parts (nat_eq a (2 ^ 35)) (nat_eq m (2 ^ 36 - 1)) p in
    let e = eqb-true a (2 ^ 35) q.0 in
    let f = eqb-true m (2 ^ 36 - 1) q.1 in
    inr (rw (e, f) refl)

done : (a m : ℕ) → a < 2 ^ 36 → m < 2 ^ 36 → no_quotient a m ≡ false → (signed_value m ≡ pos 0) ⊎ (int_div (signed_value a) (signed_value m) ≡ pos (2 ^ 35)) → ⊥
done a m ha hm h (inl p) = not_zero a m h (zero_word m (signed_value m) hm (reads m) p)
done a m ha hm h (inr p) =
    no_word (quotient_of a m) (signed_value (quotient_of a m)) (quotient_below a m ha hm h) (reads (quotient_of a m))
    (quotient_law a m ha hm h ∙ p)

pub none_law : (a m : ℕ) → a < 2 ^ 36 → m < 2 ^ 36
    → (no_quotient a m ≡ true) ↔ ((signed_value m ≡ pos 0) ⊎ (int_div (signed_value a) (signed_value m) ≡ pos (2 ^ 35)))
none_law a m ha hm = (
  (λ h. refused a m (or_cases (nat_eq m 0) (nat_eq a (2 ^ 35) && nat_eq m (2 ^ 36 - 1)) h)),
  (λ p. true_from_ne_false (no_quotient a m) (λ h. done a m ha hm h p)),
)

pub ruleset divisions = (quotient_is, remainder_is)
