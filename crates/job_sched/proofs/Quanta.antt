-- What is left of a quantum after some rounds: as counted round by round, and as told by a remainder.
use Rattle.std.proofs.Common.{◌≡◌, ◌<◌, ◌≤◌, ◌∙◌, sym, ap, ℕ, zero, suc, ◌+◌, ◌-◌, ◌%◌, max, cond, inl, inr, refl, arith}
use Rattle.std.proofs.lemmas.Bool.{cases_eq, lt-ltb}
use Rattle.std.proofs.Math.Nat.{mod-eq_of_lt, mod-lt, mod_self, suc-mod, zero-mod}
use Rattle.job_sched.specs.Changes.{left_after, renewed}

pub renewed-some : (q l : ℕ) → 0 < l → renewed q l ≡ l
renewed-some q l some = ap (λ b. cond b l q) (lt-ltb 0 l some)

renewed-none : (q l : ℕ) → l ≡ 0 → renewed q l ≡ q
renewed-none q l e = ap (λ (n : ℕ). renewed q n) e

-- while the first quantum lasts
pub left-before : (q l n : ℕ) → n < l → left_after q l n ≡ l - n
left-before q l zero low = omega arith
left-before q l (suc n) low =
    let h : left_after q l n ≡ l - n = left-before q l n (omega arith) in
    let e : l - n - 1 ≡ l - suc n = omega arith in
    ap (λ (x : ℕ). renewed q (x - 1)) h ∙ renewed-some q (l - n - 1) (omega arith) ∙ e

-- where a quantum has no ticks
renewed-zero : (l : ℕ) → renewed 0 l ≡ l
renewed-zero zero = refl
renewed-zero (suc l) = renewed-some 0 (suc l) (omega arith)

pub left-zero : (l n : ℕ) → left_after 0 l n ≡ l - n
left-zero l zero = omega arith
left-zero l (suc n) =
    let e : l - n - 1 ≡ l - suc n = omega arith in
    ap (λ (x : ℕ). renewed 0 (x - 1)) (left-zero l n) ∙ renewed-zero (l - n - 1) ∙ e

-- a round of a later quantum
step : (q r : ℕ) → r < q → renewed q (q - r - 1) ≡ q - suc r % q
step q r low = elim (cases_eq (suc r) q) [
  | inl e ↦
      let whole : q ≡ q - 0 = omega arith in
      renewed-none q (q - r - 1) (omega (arith, e)) ∙ whole ∙ sym (ap (λ (k : ℕ). q - k) (ap (λ (k : ℕ). k % q) e ∙ mod_self q))
  | inr other ↦
      let below : suc r < q = omega (arith, other) in
      let same : q - r - 1 ≡ q - suc r = omega arith in
      renewed-some q (q - r - 1) (omega arith) ∙ same ∙ sym (ap (λ (k : ℕ). q - k) (mod-eq_of_lt below))
]

-- d rounds after the one in which the first quantum ended, which was the one after f
pub left-later : (q l f d n : ℕ) → n ≡ f + d + 1 → left_after q l f - 1 ≡ 0 → 0 < q → left_after q l n ≡ q - d % q
left-later q l f zero n is ended some =
    let next : n ≡ suc f = omega (arith, is) in
    let whole : q ≡ q - 0 = omega arith in
    ap (λ (k : ℕ). left_after q l k) next ∙ renewed-none q (left_after q l f - 1) ended ∙ whole ∙ sym (ap (λ (k : ℕ). q - k) (zero-mod q))
left-later q l f (suc d) n is ended some =
    let next : n ≡ suc (f + d + 1) = omega (arith, is) in
    ap (λ (k : ℕ). left_after q l k) next
    ∙ ap (λ (x : ℕ). renewed q (x - 1)) (left-later q l f d (f + d + 1) refl ended some)
    ∙ step q (d % q) (mod-lt d some)
    ∙ sym (ap (λ (k : ℕ). q - k) (suc-mod d q))

-- the first quantum ends in the round after so many less one, or at once where nothing was left
ends : (q l : ℕ) → left_after q l (max l 1 - 1) - 1 ≡ 0
ends q zero = refl
ends q (suc k) =
    let e : max (suc k) 1 - 1 ≡ k = omega arith in
    let h : left_after q (suc k) k ≡ suc k - k = left-before q (suc k) k (omega arith) in
    ap (λ (n : ℕ). left_after q (suc k) n - 1) e ∙ (omega (arith, h))

-- what is left as long as the first quantum lasts, in which a round goes by also where nothing was left
pub left-first : (q l n : ℕ) → n < max l 1 → left_after q l n ≡ l - n
left-first q zero zero low = refl
left-first q zero (suc n) low = absurd (omega arith)
left-first q (suc l) n low = left-before q (suc l) n (omega arith)

-- and then, by a remainder
pub left-rest : (q l n : ℕ) → max l 1 ≤ n → 0 < q → left_after q l n ≡ q - (n - max l 1) % q
left-rest q l n high some = left-later q l (max l 1 - 1) (n - max l 1) n (omega arith) (ends q l) some
