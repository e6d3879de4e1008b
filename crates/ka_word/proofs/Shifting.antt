use Rattle.std.proofs.Common.{◌≡◌, ℕ, ◌+◌, ◌-◌, ◌*◌, ◌/◌, ◌%◌, ◌^◌, ◌<◌, ◌≤◌, false, refl, arith, sym, ap, ◌∙◌, nat_eq, suc, zero}
use Rattle.std.specs.Prelude.{bit_and}
use Rattle.std.proofs.lemmas.Nat.{mul-add-lt, pow-add, pow_pos, mod_below, shr_below, shl_whole, shl_below}
use Rattle.std.proofs.lemmas.Nat.{one_shl, and_mask, mod-pow-add, mod_low, shl-shr, mul-le}
use Rattle.std.proofs.lemmas.Bool.{ne_eqb}
use Rattle.std.proofs.Math.Pow.{pow_mono}
use Rattle.std.proofs.Math.Nat.{div-eq_of_lt, mul_assoc, add-zero, mul-div-mul_right}

-- 2 ^ k as a power times 2 ^ n
pow_split : (k n : ℕ) → n ≤ k → 2 ^ (k - n) * 2 ^ n ≡ 2 ^ k
pow_split k n h = let s : (k - n) + n ≡ k = omega arith in sym (pow-add 2 (k - n) n) ∙ ap (λ (m : ℕ). 2 ^ m) s

-- as many places as there are bits, or more, leave nothing
left_gone : (w k n : ℕ) → n ≤ k → w * 2 ^ k % 2 ^ n ≡ 0
left_gone w k n h =
    let f : w * 2 ^ k ≡ w * 2 ^ (k - n) * 2 ^ n + 0 =
    ap (λ (m : ℕ). w * m) (sym (pow_split k n h))
    ∙ (sym (mul_assoc w (2 ^ (k - n)) (2 ^ n)) ∙ sym (add-zero (w * 2 ^ (k - n) * 2 ^ n))) in
    ap (λ (m : ℕ). m % 2 ^ n) f ∙ mod_low (w * 2 ^ (k - n)) n 0 (pow_pos n)

pub left_gone_35 : (w k : ℕ) → 35 ≤ k → w * 2 ^ k % 2 ^ 35 ≡ 0
left_gone_35 w k h = left_gone w k 35 h

pub left_gone_36 : (w k : ℕ) → 36 ≤ k → w * 2 ^ k % 2 ^ 36 ≡ 0
left_gone_36 w k h = left_gone w k 36 h

pub left_gone_72 : (w k : ℕ) → 72 ≤ k → w * 2 ^ k % 2 ^ 72 ≡ 0
left_gone_72 w k h = left_gone w k 72 h

right_gone : (w k n : ℕ) → w < 2 ^ n → n ≤ k → w / 2 ^ k ≡ 0
right_gone w k n h b = let p : 2 ^ n ≤ 2 ^ k = pow_mono b in let q : w < 2 ^ k = omega (arith, p) in div-eq_of_lt q

pub word_gone : (w k : ℕ) → w < 2 ^ 36 → 36 ≤ k → w / 2 ^ k ≡ 0
word_gone w k h b = right_gone w k 36 h b

pub pair_gone : (w k : ℕ) → w < 2 ^ 72 → 72 ≤ k → w / 2 ^ k ≡ 0
pair_gone w k h b = right_gone w k 72 h b

-- bits that leave 64, or 128, bits are not among the low 36, or 72
cut : (x j n : ℕ) → x % 2 ^ (j + n) % 2 ^ n ≡ x % 2 ^ n
cut x j n = ap (λ (m : ℕ). m % 2 ^ n) (mod-pow-add x j n) ∙ mod_low (x / 2 ^ n % 2 ^ j) n (x % 2 ^ n) (mod_below x (2 ^ n) (pow_pos n))

pub word_cut : (w k : ℕ) → w * 2 ^ k % 2 ^ 64 % 2 ^ 36 ≡ w * 2 ^ k % 2 ^ 36
word_cut w k = cut (w * 2 ^ k) 28 36

pub low_cut : (w k : ℕ) → w * 2 ^ k % 2 ^ 64 % 2 ^ 35 ≡ w * 2 ^ k % 2 ^ 35
low_cut w k = cut (w * 2 ^ k) 29 35

pub pair_cut : (w k : ℕ) → w * 2 ^ k % 2 ^ 128 % 2 ^ 72 ≡ w * 2 ^ k % 2 ^ 72
pair_cut w k = cut (w * 2 ^ k) 56 72

pub ruleset gone = (left_gone_36, left_gone_72, word_gone, pair_gone, word_cut, pair_cut)

-- bits that are turned round stay within their number
turn_below : (w r n : ℕ) → w < 2 ^ n → r ≤ n → w % 2 ^ (n - r) * 2 ^ r + w / 2 ^ (n - r) < 2 ^ n
turn_below w r n h b =
    let s : r + (n - r) ≡ n = omega arith in
    let e : 2 ^ r * 2 ^ (n - r) ≡ 2 ^ n = sym (pow-add 2 r (n - r)) ∙ ap (λ (m : ℕ). 2 ^ m) s in
    let hw : w < 2 ^ (r + (n - r)) = rw s h in
    let q : w / 2 ^ (n - r) < 2 ^ r = shr_below w r (n - r) hw in
    let m : w % 2 ^ (n - r) * 2 ^ r + w / 2 ^ (n - r) < 2 ^ r * 2 ^ (n - r) =
    mul-add-lt (w % 2 ^ (n - r)) (2 ^ r) (w / 2 ^ (n - r)) (2 ^ (n - r)) (mod_below w (2 ^ (n - r)) (pow_pos (n - r))) q in
    rw e at m

pub turn_36 : (w r : ℕ) → w < 2 ^ 36 → r ≤ 36 → w % 2 ^ (36 - r) * 2 ^ r + w / 2 ^ (36 - r) < 2 ^ 36
turn_36 w r h b = turn_below w r 36 h b

pub turn_72 : (w r : ℕ) → w < 2 ^ 72 → r ≤ 72 → w % 2 ^ (72 - r) * 2 ^ r + w / 2 ^ (72 - r) < 2 ^ 72
turn_72 w r h b = turn_below w r 72 h b

pub whole_36 : (a r : ℕ) → a < 2 ^ (36 - r) → r ≤ 36 → a * 2 ^ r % 2 ^ 64 ≡ a * 2 ^ r
whole_36 a r h b = shl_whole a (36 - r) r 64 h (omega arith)

pub whole_72 : (a r : ℕ) → a < 2 ^ (72 - r) → r ≤ 72 → a * 2 ^ r % 2 ^ 128 ≡ a * 2 ^ r
whole_72 a r h b = shl_whole a (72 - r) r 128 h (omega arith)

pub ruleset turns = (turn_36, turn_72, whole_36, whole_72)

pub ruleset ashes = (left_gone_35, low_cut)

split_35 : (k : ℕ) → k ≤ 35 → 2 ^ (35 - k) * 2 ^ k ≡ 2 ^ 35
split_35 k h = pow_split 35 k h

-- the bits that leave bit 1
pub lost_few : (w k : ℕ) → k ≤ 35 → w * 2 ^ k / 2 ^ 35 ≡ w / 2 ^ (35 - k)
lost_few w k h = ap (λ (m : ℕ). w * 2 ^ k / m) (sym (split_35 k h)) ∙ mul-div-mul_right w (2 ^ (35 - k)) (pow_pos k)

lost_many : (w k : ℕ) → 36 ≤ k → w * 2 ^ k / 2 ^ 35 ≡ w * 2 ^ (k - 35)
lost_many w k h =
    let f : w * 2 ^ k ≡ w * 2 ^ (k - 35) * 2 ^ 35 = ap (λ (m : ℕ). w * m) (sym (pow_split k 35 (omega arith))) ∙ sym (mul_assoc w (2 ^ (k - 35)) (2 ^ 35)) in
    ap (λ (m : ℕ). m / 2 ^ 35) f ∙ shl-shr (w * 2 ^ (k - 35)) 35

two_or_more : (k : ℕ) → 36 ≤ k → 2 ≤ 2 ^ (k - 35)
two_or_more k h = let p : 1 ≤ k - 35 = omega arith in let q : 2 ^ 1 ≤ 2 ^ (k - 35) = pow_mono p in q

-- zeros come in after the sign's own bits have left
not_all_ones : (w k : ℕ) → w < 2 ^ 35 → 36 ≤ k → w * 2 ^ (k - 35) ≡ 2 ^ k - 1 → ⊥
not_all_ones w k h b e =
    let p = pow_split k 35 (omega arith) in
    let q = two_or_more k b in
    let m : w * 2 ^ (k - 35) ≤ (2 ^ 35 - 1) * 2 ^ (k - 35) = mul-le w (2 ^ (k - 35)) (2 ^ 35 - 1) (2 ^ (k - 35)) (omega arith) (omega arith) in
    omega (arith, p, q, m, e)

pub lost_negative : (w k : ℕ) → w < 2 ^ 35 → 36 ≤ k → nat_eq (w * 2 ^ k / 2 ^ 35) (2 ^ k - 1) ≡ false
lost_negative w k h b = rw (lost_many w k b) (ne_eqb (w * 2 ^ (k - 35)) (2 ^ k - 1) (not_all_ones w k h b))

product_zero : (w m : ℕ) → 2 ≤ m → nat_eq (w * m) 0 ≡ nat_eq w 0
product_zero zero m h = let e : 0 * m ≡ 0 = omega arith in rw e refl
product_zero (suc w) m h =
    ne_eqb (suc w * m) 0 (λ e. let f : m + w * m ≡ 0 = omega (arith, e) in omega arith) ∙ sym (ne_eqb (suc w) 0 (λ e. omega (arith, e)))

pub lost_positive : (w k : ℕ) → 36 ≤ k → nat_eq (w * 2 ^ k / 2 ^ 35) 0 ≡ nat_eq w 0
lost_positive w k b = rw (lost_many w k b) (product_zero w (2 ^ (k - 35)) (two_or_more k b))

pub ruleset losses = (lost_few, lost_negative, lost_positive, one_shl)

pub low_bits_of_pair : (n k : ℕ) → k < 128 → bit_and n (1 * 2 ^ k % 2 ^ 128 - 1) ≡ n % 2 ^ k
low_bits_of_pair n k h = rw (one_shl k 128 h) (and_mask n k)
