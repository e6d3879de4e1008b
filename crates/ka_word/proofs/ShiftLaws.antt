-- Arithmetic shifts as products and quotients by powers of 2.
use Rattle.std.proofs.Common.{◌≡◌, ◌↔◌, ◌∙◌, ℕ, zero, suc, ◌+◌, ◌-◌, ◌*◌, ◌/◌, ◌%◌, ◌^◌, ◌<◌, ◌≤◌, inl, inr, Bool, true, false, not, cond}
use Rattle.std.proofs.Common.{nat_eq, ℤ, pos, negsuc, neg_ℤ, ◌+ℤ◌, ◌-ℤ◌, ◌*ℤ◌, ◌<ℤ◌, ◌≤ℤ◌, refl, sym, subst, ap, arith}
use Rattle.std.proofs.lemmas.Bool.{lt-leb, le-leb, lt-ltb, le-ltb, eqb-true, eq-eqb, not-false, not_from_true, cond-true, cond-false, cases_lt}
use Rattle.std.proofs.lemmas.Nat.{pow_pos, mul-le, div-add-mod', mod_below}
use Rattle.std.proofs.lemmas.Int.{ints}
use Rattle.std.proofs.Math.Nat.{add-mul, div-le_self, mod-eq_of_lt}
use Rattle.std.proofs.Math.IntN.{negsuc-*ℤ-pos}
use Rattle.word36.specs.Words.{complement, is_negative, signed_value}
use Rattle.ka_word.specs.Shifts.{ash_of, ash_overflows, is_left, lsh_of, places_of, shifted_left, shifted_right}
use Rattle.ka_word.specs.Laws.{FitsWord, opposite}
use Rattle.ka_word.proofs.Signed.{signed_high, signed_low, signed_minus, neg_mul}

-- to the left, by a factor f
abbrev left_word : ℕ → ℕ → ℕ
left_word f w = cond (is_negative w) (2 ^ 35) 0 + w % 2 ^ 35 * f % 2 ^ 35

abbrev left_past : ℕ → ℕ → Bool
left_past f w = not (nat_eq (w % 2 ^ 35 * f / 2 ^ 35) (cond (is_negative w) (f - 1) 0))

-- a negative number times f, by its low 35 bits
negative_product : (w f : ℕ) → 2 ^ 35 ≤ w → w < 2 ^ 36 → signed_value w *ℤ pos f +ℤ pos (2 ^ 35 * f) ≡ pos (w % 2 ^ 35 * f)
negative_product w f h b =
    let m : ℕ = 2 ^ 36 - w in
    let e : signed_value w *ℤ pos f ≡ neg_ℤ (pos (m * f)) = ap (λ (z : ℤ). z *ℤ pos f) (signed_minus w h b) ∙ neg_mul m f in
    let s : m + w % 2 ^ 35 ≡ 2 ^ 35 = omega arith in
    let d : m * f + w % 2 ^ 35 * f ≡ 2 ^ 35 * f = sym (add-mul m (w % 2 ^ 35) f) ∙ ap (λ (k : ℕ). k * f) s in
    rw e (joined_at (m * f) (w % 2 ^ 35 * f) (2 ^ 35 * f) d)
  where
    joined_at : (x y z : ℕ) → x + y ≡ z → neg_ℤ (pos x) +ℤ pos z ≡ pos y
    joined_at x y z e = omega (arith, ints)

-- over plain numbers: x is the low bits times f, z the signed product
fits_high : (x f : ℕ) (z : ℤ) → 0 < f → x < 2 ^ 35 * f → z +ℤ pos (2 ^ 35 * f) ≡ pos x → x / 2 ^ 35 ≡ f - 1 → FitsWord z
fits_high x f z p b e q = (omega (arith, ints), omega (arith, ints))

high_fits : (x f : ℕ) (z : ℤ) → 0 < f → x < 2 ^ 35 * f → z +ℤ pos (2 ^ 35 * f) ≡ pos x → FitsWord z → x / 2 ^ 35 ≡ f - 1
high_fits x f z p b e q = omega (arith, ints)

value_high : (x f : ℕ) (z : ℤ) → 0 < f → x < 2 ^ 35 * f → z +ℤ pos (2 ^ 35 * f) ≡ pos x → x / 2 ^ 35 ≡ f - 1 → pos (2 ^ 35 + x % 2 ^ 35) -ℤ pos (2 ^ 36) ≡ z
value_high x f z p b e q = omega (arith, ints)

low_times : (w f : ℕ) → 0 < f → w % 2 ^ 35 * f < 2 ^ 35 * f
low_times w f h = let m : w % 2 ^ 35 * f ≤ (2 ^ 35 - 1) * f = mul-le (w % 2 ^ 35) f (2 ^ 35 - 1) f (omega arith) (omega arith) in omega arith

same_test : (x y : Bool) (P Q : Type 0) → x ≡ y → (P → Q) → (Q → P) → (y ≡ false) ↔ P → (x ≡ false) ↔ Q
same_test x y P Q e f g h = ((λ k. f (h.0 (sym e ∙ k))), (λ q. e ∙ h.1 (g q)))

past_low : (w f : ℕ) → w < 2 ^ 35 → left_past f w ≡ not (nat_eq (w * f / 2 ^ 35) 0)
past_low w f h = rw (lt-leb (2 ^ 35) w h, mod-eq_of_lt h) refl

past_high : (w f : ℕ) → 2 ^ 35 ≤ w → left_past f w ≡ not (nat_eq (w % 2 ^ 35 * f / 2 ^ 35) (f - 1))
past_high w f h = rw (le-leb (2 ^ 35) w h) refl

word_low : (w f : ℕ) → w < 2 ^ 35 → left_word f w ≡ 0 + w * f % 2 ^ 35
word_low w f h = rw (lt-leb (2 ^ 35) w h, mod-eq_of_lt h) refl

word_high : (w f : ℕ) → 2 ^ 35 ≤ w → left_word f w ≡ 2 ^ 35 + w % 2 ^ 35 * f % 2 ^ 35
word_high w f h = rw (le-leb (2 ^ 35) w h) refl

-- the product of a number that is not negative
low_product : (w f : ℕ) → w < 2 ^ 35 → signed_value w *ℤ pos f ≡ pos (w * f)
low_product w f h = ap (λ (z : ℤ). z *ℤ pos f) (signed_low w h)

none_lost : (x : ℕ) → (not (nat_eq (x / 2 ^ 35) 0) ≡ false) ↔ FitsWord (pos x)
none_lost x = (
  (λ k. let q : x / 2 ^ 35 ≡ 0 = eqb-true (x / 2 ^ 35) 0 (not-false (nat_eq (x / 2 ^ 35) 0) k) in (omega (arith, ints), omega (arith, ints))),
  (λ q. not_from_true (nat_eq (x / 2 ^ 35) 0) (eq-eqb (x / 2 ^ 35) 0 (omega (arith, ints)))),
)

all_lost : (x f : ℕ) (z : ℤ) → 0 < f → x < 2 ^ 35 * f → z +ℤ pos (2 ^ 35 * f) ≡ pos x → (not (nat_eq (x / 2 ^ 35) (f - 1)) ≡ false) ↔ FitsWord z
all_lost x f z p l e = (
  (λ k. fits_high x f z p l e (eqb-true (x / 2 ^ 35) (f - 1) (not-false (nat_eq (x / 2 ^ 35) (f - 1)) k))),
  (λ q. not_from_true (nat_eq (x / 2 ^ 35) (f - 1)) (eq-eqb (x / 2 ^ 35) (f - 1) (high_fits x f z p l e q))),
)

left_fits_by : (w f : ℕ) → w < 2 ^ 36 → 0 < f → (left_past f w ≡ false) ↔ FitsWord (signed_value w *ℤ pos f)
left_fits_by w f b p = elim (cases_lt w (2 ^ 35)) [
  | inl h ↦
      same_test (left_past f w) (not (nat_eq (w * f / 2 ^ 35) 0)) (FitsWord (pos (w * f))) (FitsWord (signed_value w *ℤ pos f))
      (past_low w f h) (λ q. subst FitsWord (sym (low_product w f h)) q) (λ q. subst FitsWord (low_product w f h) q)
      (none_lost (w * f))
  | inr h ↦
      same_test (left_past f w) (not (nat_eq (w % 2 ^ 35 * f / 2 ^ 35) (f - 1))) (FitsWord (signed_value w *ℤ pos f))
      (FitsWord (signed_value w *ℤ pos f)) (past_high w f h) (λ q. q) (λ q. q)
      (all_lost (w % 2 ^ 35 * f) f (signed_value w *ℤ pos f) p (low_times w f p) (negative_product w f h b))
]

value_low : (x : ℕ) → not (nat_eq (x / 2 ^ 35) 0) ≡ false → signed_value (0 + x % 2 ^ 35) ≡ pos x
value_low x k =
    let q : x / 2 ^ 35 ≡ 0 = eqb-true (x / 2 ^ 35) 0 (not-false (nat_eq (x / 2 ^ 35) 0) k) in
    signed_low (0 + x % 2 ^ 35) (omega arith) ∙ omega (arith, ints)

left_value_by : (w f : ℕ) → w < 2 ^ 36 → 0 < f → left_past f w ≡ false → signed_value (left_word f w) ≡ signed_value w *ℤ pos f
left_value_by w f b p k = elim (cases_lt w (2 ^ 35)) [
  | inl h ↦ ap signed_value (word_low w f h) ∙ (value_low (w * f) (sym (past_low w f h) ∙ k) ∙ sym (low_product w f h))
  | inr h ↦
      (let q : w % 2 ^ 35 * f / 2 ^ 35 ≡ f - 1 =
      eqb-true (w % 2 ^ 35 * f / 2 ^ 35) (f - 1)
      (not-false (nat_eq (w % 2 ^ 35 * f / 2 ^ 35) (f - 1)) (sym (past_high w f h) ∙ k)) in
      ap signed_value (word_high w f h)
      ∙ (signed_high (2 ^ 35 + w % 2 ^ 35 * f % 2 ^ 35) (omega arith)
      ∙ value_high (w % 2 ^ 35 * f) f (signed_value w *ℤ pos f) p (low_times w f p) (negative_product w f h b) q))
]

-- to the right, by a divisor f
abbrev right_word : ℕ → ℕ → ℕ
right_word f w = cond (is_negative w) (complement (complement w / f)) (w / f)

pub left_fits_law : (e w : ℕ) → w < 2 ^ 36 → is_left e ≡ true → (ash_overflows e w ≡ false) ↔ FitsWord (signed_value w *ℤ pos (2 ^ places_of e))
unfolding ash_overflows
left_fits_law e w b h =
    let t = cond-true (is_left e) (left_past (2 ^ places_of e) w) false h in
    let P = FitsWord (signed_value w *ℤ pos (2 ^ places_of e)) in
    same_test (ash_overflows e w) (left_past (2 ^ places_of e) w) P P t (λ q. q) (λ q. q) (left_fits_by w (2 ^ places_of e) b (pow_pos (places_of e)))

pub left_law : (e w : ℕ) → w < 2 ^ 36 → is_left e ≡ true → ash_overflows e w ≡ false → signed_value (ash_of e w) ≡ signed_value w *ℤ pos (2 ^ places_of e)
unfolding ash_overflows ash_of
left_law e w b h k =
    let q : left_past (2 ^ places_of e) w ≡ false = sym (cond-true (is_left e) (left_past (2 ^ places_of e) w) false h) ∙ k in
    ap signed_value (cond-true (is_left e) (left_word (2 ^ places_of e) w) (right_word (2 ^ places_of e) w) h)
    ∙ left_value_by w (2 ^ places_of e) b (pow_pos (places_of e)) q

-- the value of a word of which all bits are turned round
complement_high : (q : ℕ) → q < 2 ^ 35 → signed_value (complement q) ≡ negsuc q
complement_high q h = signed_high (complement q) (omega arith) ∙ omega (arith, ints)

negative_complement : (w : ℕ) → 2 ^ 35 ≤ w → w < 2 ^ 36 → signed_value w ≡ negsuc (complement w)
negative_complement w h b = signed_high w h ∙ omega (arith, ints)

-- z is the floor of x over f
abbrev IsFloor : ℤ → ℤ → ℕ → Type 0
IsFloor z x f = ((z *ℤ pos f) ≤ℤ x) × (x <ℤ ((z +ℤ pos 1) *ℤ pos f))

floor_low : (w q f r : ℕ) → q * f + r ≡ w → r < f → IsFloor (pos q) (pos w) f
floor_low w q f r e h = let d : (q + 1) * f ≡ q * f + f = more_by q f in (omega (arith, ints), omega (arith, ints))
  where
    more_by : (q f : ℕ) → (q + 1) * f ≡ q * f + f
    more_by q f = omega (arith, add-mul q 1 f)

one_less : (q : ℕ) → negsuc q +ℤ pos 1 ≡ neg_ℤ (pos q)
one_less q = omega (arith, ints)

floor_high : (c q f r : ℕ) → q * f + r ≡ c → r < f → IsFloor (negsuc q) (negsuc c) f
floor_high c q f r e h =
    let d : suc q * f ≡ q * f + f = more_by q f in
    let x : negsuc q *ℤ pos f ≡ neg_ℤ (pos (suc q * f)) = negsuc-*ℤ-pos q f in
    let y : (negsuc q +ℤ pos 1) *ℤ pos f ≡ neg_ℤ (pos (q * f)) = ap (λ (z : ℤ). z *ℤ pos f) (one_less q) ∙ neg_mul q f in (
      subst (λ (z : ℤ). z ≤ℤ negsuc c) (sym x) (low_side c (suc q * f) (omega arith)),
      subst (λ (z : ℤ). negsuc c <ℤ z) (sym y) (high_side c (q * f) (omega arith)),
    )
  where
    more_by : (q f : ℕ) → suc q * f ≡ q * f + f
    more_by q f = omega arith

    low_side : (c m : ℕ) → c + 1 ≤ m → neg_ℤ (pos m) ≤ℤ negsuc c
    low_side c m h = omega (arith, ints)

    high_side : (c m : ℕ) → m ≤ c → negsuc c <ℤ neg_ℤ (pos m)
    high_side c m h = omega (arith, ints)

right_by : (w f : ℕ) → w < 2 ^ 36 → 0 < f → IsFloor (signed_value (right_word f w)) (signed_value w) f
right_by w f b p = elim (cases_lt w (2 ^ 35)) [
  | inl h ↦ (let e : right_word f w ≡ w / f = rw (lt-leb (2 ^ 35) w h) refl in
      let l = div-le_self w f in
      let v : signed_value (right_word f w) ≡ pos (w / f) = ap signed_value e ∙ signed_low (w / f) (omega arith) in
      at_values (signed_value (right_word f w)) (pos (w / f)) (signed_value w) (pos w) v (signed_low w h)
      (floor_low w (w / f) f (w % f) (div-add-mod' w f) (mod_below w f p)))
  | inr h ↦ (let e : right_word f w ≡ complement (complement w / f) = rw (le-leb (2 ^ 35) w h) refl in
      let l = div-le_self (complement w) f in
      let v : signed_value (right_word f w) ≡ negsuc (complement w / f) = ap signed_value e ∙ complement_high (complement w / f) (omega arith) in
      at_values (signed_value (right_word f w)) (negsuc (complement w / f)) (signed_value w) (negsuc (complement w)) v
      (negative_complement w h b)
      (floor_high (complement w) (complement w / f) f (complement w % f) (div-add-mod' (complement w) f)
      (mod_below (complement w) f p)))
]
  where
    at_values : (z z2 x x2 : ℤ) → z ≡ z2 → x ≡ x2 → IsFloor z2 x2 f → IsFloor z x f
    at_values z z2 x x2 e g k = rw (e, g) k

pub right_law : (e w : ℕ) → w < 2 ^ 36 → is_left e ≡ false
    → ((signed_value (ash_of e w) *ℤ pos (2 ^ places_of e)) ≤ℤ signed_value w)
    × (signed_value w <ℤ ((signed_value (ash_of e w) +ℤ pos 1) *ℤ pos (2 ^ places_of e)))
unfolding ash_of
right_law e w b h =
    let t : ash_of e w ≡ right_word (2 ^ places_of e) w = cond-false (is_left e) (left_word (2 ^ places_of e) w) (right_word (2 ^ places_of e) w) h in
    subst (λ (v : ℕ). IsFloor (signed_value v) (signed_value w) (2 ^ places_of e)) (sym t) (right_by w (2 ^ places_of e) b (pow_pos (places_of e)))

-- to the right and back to the left
there_and_back : (w f : ℕ) → w < 2 ^ 36 → w / f * f % 2 ^ 36 ≡ w / f * f
there_and_back w f b = let e = div-add-mod' w f in let h : w / f * f < 2 ^ 36 = omega arith in mod-eq_of_lt h

opposite_right : (e : ℕ) → 0 < e → e < 2 ^ 17 → is_left (opposite e) ≡ false
opposite_right e h b = le-ltb (opposite e) (2 ^ 17) (omega arith)

opposite_places : (e : ℕ) → 0 < e → e < 2 ^ 17 → places_of (opposite e) ≡ places_of e
opposite_places e h b =
    cond-false (is_left (opposite e)) (opposite e % 256) ((2 ^ 18 - opposite e) % 256) (opposite_right e h b)
    ∙ (let p : 2 ^ 18 - opposite e ≡ e = omega arith in
    ap (λ (k : ℕ). k % 256) p ∙ sym (cond-true (is_left e) (e % 256) ((2 ^ 18 - e) % 256) (lt-ltb e (2 ^ 17) b)))

pub back_law : (e w : ℕ) → e < 2 ^ 17 → w < 2 ^ 36 → lsh_of e (lsh_of (opposite e) w) ≡ w / 2 ^ places_of e * 2 ^ places_of e
unfolding lsh_of
back_law zero w h b = omega arith
back_law (suc d) w h b =
    let e : ℕ = suc d in
    let inner : lsh_of (opposite e) w ≡ w / 2 ^ places_of e =
    cond-false (is_left (opposite e)) (shifted_left 36 (places_of (opposite e)) w) (shifted_right (places_of (opposite e)) w)
    (opposite_right e (omega arith) h) ∙ ap (λ (k : ℕ). w / 2 ^ k) (opposite_places e (omega arith) h) in
    ap (λ (v : ℕ). lsh_of e v) inner
    ∙ (cond-true (is_left e) (shifted_left 36 (places_of e) (w / 2 ^ places_of e))
    (shifted_right (places_of e) (w / 2 ^ places_of e)) (lt-ltb e (2 ^ 17) h) ∙ there_and_back w (2 ^ places_of e) b)
