-- The table of pairs of octal digits says what the definition says. It is computed once, over all pairs.
use Rattle.std.proofs.Common.{◌≡◌, ◌+◌, ◌*◌, ◌/◌, ◌%◌, ◌<◌, ◌==◌, ℕ, [], ◌∷◌, true, get_or, refl, sym, arith, ap, ◌∙◌}
use Rattle.std.proofs.lemmas.Bool.{agree_below, agree_below_at, eqb-true}
use Rattle.word36.specs.Octal.{octal}
use Rattle.script_io.specs.declared.print.TheConstants.{PAIRS}

firsts_agree : agree_below (λ k. get_or PAIRS (2 * k) 0 == 48 + k / 8) (λ k. true) 64 ≡ true
firsts_agree = refl

pub first_of_pair : (k : ℕ) → k < 64 → get_or PAIRS (2 * k) 0 ≡ 48 + k / 8
first_of_pair k h = eqb-true _ _ (agree_below_at (λ k. get_or PAIRS (2 * k) 0 == 48 + k / 8) (λ k. true) 64 k firsts_agree h)

seconds_agree : agree_below (λ k. get_or PAIRS (2 * k + 1) 0 == 48 + k % 8) (λ k. true) 64 ≡ true
seconds_agree = refl

pub second_of_pair : (k : ℕ) → k < 64 → get_or PAIRS (2 * k + 1) 0 ≡ 48 + k % 8
second_of_pair k h = eqb-true _ _ (agree_below_at (λ k. get_or PAIRS (2 * k + 1) 0 == 48 + k % 8) (λ k. true) 64 k seconds_agree h)

-- six digits
pub six_digits : (n : ℕ) → octal 6 n
    ≡ (48 + n / 8 / 8 / 8 / 8 / 8 % 8) ∷ (48 + n / 8 / 8 / 8 / 8 % 8) ∷ (48 + n / 8 / 8 / 8 % 8) ∷ (48 + n / 8 / 8 % 8) ∷ (48 + n / 8 % 8) ∷ (48 + n % 8) ∷ []
unfolding octal
six_digits n = refl

first_of : (n k : ℕ) → n % 8 ≡ k / 8 → k < 64 → get_or PAIRS (2 * k) 0 ≡ 48 + n % 8
first_of n k is small = first_of_pair k small ∙ ap (λ d. 48 + d) (sym is)

second_of : (n k : ℕ) → n % 8 ≡ k % 8 → k < 64 → get_or PAIRS (2 * k + 1) 0 ≡ 48 + n % 8
second_of n k is small = second_of_pair k small ∙ ap (λ d. 48 + d) (sym is)

pub pairs_are : (n : ℕ)
    → get_or PAIRS (2 * (n / 4096 % 64)) 0 ∷ get_or PAIRS (2 * (n / 4096 % 64) + 1) 0
    ∷ get_or PAIRS (2 * (n / 64 % 64)) 0 ∷ get_or PAIRS (2 * (n / 64 % 64) + 1) 0
    ∷ get_or PAIRS (2 * (n % 64)) 0 ∷ get_or PAIRS (2 * (n % 64) + 1) 0 ∷ []
    ≡ octal 6 n
pairs_are n =
    rw (
      six_digits n,
      first_of (n / 8 / 8 / 8 / 8 / 8) (n / 4096 % 64) (omega arith) (omega arith),
      second_of (n / 8 / 8 / 8 / 8) (n / 4096 % 64) (omega arith) (omega arith),
      first_of (n / 8 / 8 / 8) (n / 64 % 64) (omega arith) (omega arith),
      second_of (n / 8 / 8) (n / 64 % 64) (omega arith) (omega arith),
      first_of (n / 8) (n % 64) (omega arith) (omega arith),
      second_of n (n % 64) (omega arith) (omega arith),
    ) refl
