-- Bytes loaded and deposited.
use Rattle.std.proofs.Common.{◌≡◌, ◌∙◌, ℕ, ◌+◌, ◌-◌, ◌*◌, ◌/◌, ◌%◌, ◌^◌, ◌<◌, ◌≤◌, ◌⊎◌, inl, inr, min, refl, sym, ap, arith}
use Rattle.std.proofs.lemmas.Bool.{lt-ltb, le-ltb, cases_lt}
use Rattle.std.proofs.lemmas.Nat.{mod_below, mod_low, mul-add-lt, pow-add, pow_pos, shr_high}
use Rattle.std.proofs.Math.Nat.{div-eq_of_lt, mod-eq_of_lt, add-mul, mul_assoc}
use Rattle.std.proofs.Math.Pow.{mod-mod-pow, pow_mono}
use Rattle.ka_word.specs.Bytes.{byte_of, deposited, position_of, replaced, size_of}
use Rattle.ka_word.proofs.ByteBounds.{deposit_below, field_split}

-- what is replaced, above the bits to its right
replaced_at : (p k a w : ℕ) → replaced p k a w ≡ (w / 2 ^ (p + k) * 2 ^ k + a % 2 ^ k) * 2 ^ p + w % 2 ^ p
replaced_at p k a w =
    let x : ℕ = w / 2 ^ (p + k) in
    let s : p + k ≡ k + p = omega arith in
    let e : 2 ^ (p + k) ≡ 2 ^ k * 2 ^ p = ap (λ (m : ℕ). 2 ^ m) s ∙ pow-add 2 k p in
    let f : x * 2 ^ (p + k) ≡ x * 2 ^ k * 2 ^ p = ap (λ (m : ℕ). x * m) e ∙ sym (mul_assoc x (2 ^ k) (2 ^ p)) in
    let g : (x * 2 ^ k + a % 2 ^ k) * 2 ^ p ≡ x * 2 ^ k * 2 ^ p + a % 2 ^ k * 2 ^ p = add-mul (x * 2 ^ k) (a % 2 ^ k) (2 ^ p) in
    omega (arith, f, g)

replaced_right : (p k a w : ℕ) → replaced p k a w % 2 ^ p ≡ w % 2 ^ p
replaced_right p k a w =
    ap (λ (m : ℕ). m % 2 ^ p) (replaced_at p k a w)
    ∙ mod_low (w / 2 ^ (p + k) * 2 ^ k + a % 2 ^ k) p (w % 2 ^ p) (mod_below w (2 ^ p) (pow_pos p))

replaced_from : (p k a w : ℕ) → replaced p k a w / 2 ^ p ≡ w / 2 ^ (p + k) * 2 ^ k + a % 2 ^ k
replaced_from p k a w =
    ap (λ (m : ℕ). m / 2 ^ p) (replaced_at p k a w)
    ∙ shr_high (w / 2 ^ (p + k) * 2 ^ k + a % 2 ^ k) p (w % 2 ^ p) (mod_below w (2 ^ p) (pow_pos p))

replaced_left : (p k a w : ℕ) → replaced p k a w / 2 ^ (p + k) ≡ w / 2 ^ (p + k)
replaced_left p k a w =
    let e : 2 ^ p * 2 ^ k ≡ 2 ^ (p + k) = sym (pow-add 2 p k) in
    let m : a % 2 ^ k * 2 ^ p + w % 2 ^ p < 2 ^ p * 2 ^ k =
    mul-add-lt (a % 2 ^ k) (2 ^ p) (w % 2 ^ p) (2 ^ k) (mod_below a (2 ^ k) (pow_pos k)) (mod_below w (2 ^ p) (pow_pos p)) in
    shr_high (w / 2 ^ (p + k)) (p + k) (a % 2 ^ k * 2 ^ p + w % 2 ^ p) (rw e at m)

-- a word has no bits from bit 36 on
word_gone : (w n : ℕ) → w < 2 ^ 36 → 36 ≤ n → w / 2 ^ n ≡ 0
word_gone w n h b = let p : 2 ^ 36 ≤ 2 ^ n = pow_mono b in let q : w < 2 ^ n = omega (arith, p) in div-eq_of_lt q

-- a whole byte, and one that the word has in part
abbrev Placed : ℕ → ℕ → ℕ → Type 0
Placed p s k = ((k ≡ s) × (p + s ≤ 36)) ⊎ ((p + k ≡ 36) × (k ≤ s))

placed : (p s : ℕ) → p < 36 → Placed p s (min s (36 - p))
placed p s h = elim (cases_lt (36 - p) s) [ inl k ↦ inr (omega arith, omega arith) | inr k ↦ inl (omega arith, omega arith) ]

wider : (a k s : ℕ) → k ≤ s → a % 2 ^ k % 2 ^ s ≡ a % 2 ^ k
wider a k s h = let p : 2 ^ k ≤ 2 ^ s = pow_mono h in let q : a % 2 ^ k < 2 ^ k = mod_below a (2 ^ k) (pow_pos k) in
    let r : a % 2 ^ k < 2 ^ s = omega (arith, p, q) in mod-eq_of_lt r

narrower : (x k s : ℕ) → k ≤ s → x % 2 ^ s % 2 ^ k ≡ x % 2 ^ k
narrower x k s h = let e : (s - k) + k ≡ s = omega arith in rw e at (mod-mod-pow x (s - k) k)

load_replaced : (p s k a w : ℕ) → w < 2 ^ 36 → Placed p s k → replaced p k a w / 2 ^ p % 2 ^ s ≡ a % 2 ^ k
load_replaced p s k a w h (inl q) = rw (q.0, replaced_from p s a w) (mod_low (w / 2 ^ (p + s)) s (a % 2 ^ s) (mod_below a (2 ^ s) (pow_pos s)))
load_replaced p s k a w h (inr q) =
    let g : w / 2 ^ (p + k) ≡ 0 = word_gone w (p + k) h (omega arith) in
    let z : w / 2 ^ (p + k) * 2 ^ k + a % 2 ^ k ≡ a % 2 ^ k = ap (λ (m : ℕ). m * 2 ^ k + a % 2 ^ k) g ∙ no_more (2 ^ k) (a % 2 ^ k) in
    ap (λ (m : ℕ). m % 2 ^ s) (replaced_from p k a w ∙ z) ∙ wider a k s q.1
  where
    no_more : (m x : ℕ) → 0 * m + x ≡ x
    no_more m x = omega arith

load_none : (p s a w : ℕ) → w < 2 ^ 36 → 36 ≤ p → w / 2 ^ p % 2 ^ s ≡ a % 2 ^ min s (36 - p)
load_none p s a w h b =
    let g = word_gone w p h b in
    let k : min s (36 - p) ≡ 0 = omega arith in
    let z : 0 % 2 ^ s ≡ 0 = mod-eq_of_lt (pow_pos s) in
    let o : a % 1 ≡ 0 = omega arith in
    rw (g, k, z) (sym o)

deposit_done : (p a w : ℕ) → position_of p < 36 → deposited p a w ≡ replaced (position_of p) (min (size_of p) (36 - position_of p)) a w
unfolding deposited
deposit_done p a w h = rw (lt-ltb (position_of p) 36 h) refl

deposit_none : (p a w : ℕ) → 36 ≤ position_of p → deposited p a w ≡ w
unfolding deposited
deposit_none p a w h = rw (le-ltb (position_of p) 36 h) refl

pub loaded_law : (p a w : ℕ) → w < 2 ^ 36 → byte_of p (deposited p a w) ≡ a % 2 ^ min (size_of p) (36 - position_of p)
unfolding byte_of deposited
loaded_law p a w h = elim (cases_lt (position_of p) 36) [
  | inl b ↦
      ap (λ (v : ℕ). v / 2 ^ position_of p % 2 ^ size_of p) (deposit_done p a w b)
      ∙ load_replaced (position_of p) (size_of p) (min (size_of p) (36 - position_of p)) a w h
      (placed (position_of p) (size_of p) b)
  | inr b ↦ ap (λ (v : ℕ). v / 2 ^ position_of p % 2 ^ size_of p) (deposit_none p a w b) ∙ load_none (position_of p) (size_of p) a w h b
]

pub right_law : (p a w : ℕ) → w < 2 ^ 36 → deposited p a w % 2 ^ position_of p ≡ w % 2 ^ position_of p
right_law p a w h = elim (cases_lt (position_of p) 36) [
  | inl b ↦ ap (λ (v : ℕ). v % 2 ^ position_of p) (deposit_done p a w b) ∙ replaced_right (position_of p) (min (size_of p) (36 - position_of p)) a w
  | inr b ↦ ap (λ (v : ℕ). v % 2 ^ position_of p) (deposit_none p a w b)
]

left_replaced : (p s k a w : ℕ) → w < 2 ^ 36 → Placed p s k → replaced p k a w / 2 ^ (p + s) ≡ w / 2 ^ (p + s)
left_replaced p s k a w h (inl q) = rw q.0 (replaced_left p s a w)
left_replaced p s k a w h (inr q) =
    word_gone (replaced p k a w) (p + s) (deposit_below w a p k h (omega arith)) (omega arith)
    ∙ sym (word_gone w (p + s) h (omega arith))

pub left_law : (p a w : ℕ) → w < 2 ^ 36 → deposited p a w / 2 ^ (position_of p + size_of p) ≡ w / 2 ^ (position_of p + size_of p)
left_law p a w h = elim (cases_lt (position_of p) 36) [
  | inl b ↦
      ap (λ (v : ℕ). v / 2 ^ (position_of p + size_of p)) (deposit_done p a w b)
      ∙ left_replaced (position_of p) (size_of p) (min (size_of p) (36 - position_of p)) a w h
      (placed (position_of p) (size_of p) b)
  | inr b ↦ ap (λ (v : ℕ). v / 2 ^ (position_of p + size_of p)) (deposit_none p a w b)
]

same_replaced : (p s k w : ℕ) → Placed p s k → replaced p k (w / 2 ^ p % 2 ^ s) w ≡ w
same_replaced p s k w q = ap (λ (m : ℕ). w / 2 ^ (p + k) * 2 ^ (p + k) + (m * 2 ^ p + w % 2 ^ p)) (narrower (w / 2 ^ p) k s (smaller q)) ∙ field_split w p k
  where
    smaller : Placed p s k → k ≤ s
    smaller (inl q) = omega arith
    smaller (inr q) = q.1

pub same_law : (p w : ℕ) → w < 2 ^ 36 → deposited p (byte_of p w) w ≡ w
unfolding byte_of
same_law p w h = elim (cases_lt (position_of p) 36) [
  | inl b ↦
      deposit_done p (byte_of p w) w b
      ∙ same_replaced (position_of p) (size_of p) (min (size_of p) (36 - position_of p)) w (placed (position_of p) (size_of p) b)
  | inr b ↦ deposit_none p (byte_of p w) w b
]
