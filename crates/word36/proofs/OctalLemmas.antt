-- Octal texts: how long they are, that each of their bytes is a digit, and that they read back as their numbers.
use Rattle.std.proofs.Common.{◌≡◌, ℕ, zero, suc, ◌+◌, ◌-◌, ◌/◌, ◌%◌, ◌^◌, ◌<◌, ◌≤◌, List, [], ◌∷◌, ◌++◌, length}
use Rattle.std.proofs.Common.{length-append, take, drop, refl, ap, ◌∙◌, inl, inr, ◌≢◌, arith, rules, tests}
use Rattle.std.specs.Prelude.{IsUtf8}
use Rattle.std.specs.Str.{IsAscii}
use Rattle.std.specs.Char.{digit_value}
use Rattle.std.specs.Str.Parse.{digits_value}
use Rattle.std.proofs.Math.ListN.{set}
use Rattle.std.proofs.Math.Nat.{pow-suc}
use Rattle.std.proofs.lemmas.List.{drop-set, length-drop, take_all}
use Rattle.std.proofs.lemmas.Int.Digits.{digits_value_push}
use Rattle.std.proofs.lemmas.Str.{IsUtf8-from_ascii, IsAscii-append}
use Rattle.std.proofs.lemmas.Str.Ascii.{IsAscii-nil, IsAscii-from_all}
use Rattle.std.proofs.lemmas.Bool.{cases_lt, lt-ltb, le-ltb}
use mathlib.Core.List.{append_assoc}
use Rattle.word36.specs.Octal.{last_digit, octal, octal_within}

-- a digit written before the last `position` ones goes on with them
pub octal_turn : (position n : ℕ) (digits : List ℕ) → 0 < position → position ≤ length digits
    → octal (position - 1) (n / 8) ++ drop (position - 1) (set digits (position - 1) (48 + n % 8)) ≡ octal position n ++ drop position digits
unfolding octal
octal_turn zero n digits p h = absurd (omega arith)
octal_turn (suc k) n digits p h =
    let e : suc k - 1 ≡ k = omega arith in
    rw (e, drop-set digits k (48 + n % 8) (omega arith), append_assoc) (let f : k + 1 ≡ suc k = omega arith in rw f refl)

pub length_octal : (width n : ℕ) → length (octal width n) ≡ width
unfolding octal
length_octal zero n = refl
length_octal (suc k) n = omega (arith, length-append (octal k (n / 8)) (last_digit n ∷ []), length_octal k (n / 8))

digit_value_last_digit : (n : ℕ) → digit_value (last_digit n) ≡ n % 8
digit_value_last_digit n = search (rules, tests)

-- read in radix 8, the last digits of n are what n leaves when it is divided by a power of 8
pub digits_value_octal : (width n : ℕ) → n < 8 ^ width → digits_value 8 (octal width n) ≡ n
unfolding octal
digits_value_octal zero n h = omega arith
digits_value_octal (suc k) n h =
    let e = digits_value_push 8 (octal k (n / 8)) (last_digit n) in
    let d = digit_value_last_digit n in
    let below : n / 8 < 8 ^ k = omega (arith, pow-suc 8 k) in
    let v = digits_value_octal k (n / 8) below in
    e ∙ omega (arith, d, v)

IsAscii_last_digit : (n : ℕ) → IsAscii (last_digit n ∷ [])
IsAscii_last_digit n = IsAscii-from_all (last_digit n ∷ []) (search (rules, arith))

pub IsAscii_octal : (width n : ℕ) → IsAscii (octal width n)
unfolding octal
IsAscii_octal zero n = IsAscii-nil
IsAscii_octal (suc k) n = IsAscii-append _ _ (IsAscii_octal k (n / 8)) (IsAscii_last_digit n)

pub IsUtf8_octal : (width n : ℕ) → IsUtf8 (octal width n)
IsUtf8_octal width n = IsUtf8-from_ascii _ (IsAscii_octal width n)

-- ---- without leading zeros

-- one digit, or the digits of the number divided by 8 and one more
pub octal_within_last : (k n : ℕ) → n < 8 → octal_within (suc k) n ≡ last_digit n ∷ []
unfolding octal_within
octal_within_last k n h = rw (lt-ltb n 8 h) refl

pub octal_within_more : (k n : ℕ) → 8 ≤ n → octal_within (suc k) n ≡ octal_within k (n / 8) ++ last_digit n ∷ []
unfolding octal_within
octal_within_more k n h = rw (le-ltb n 8 h) refl

-- what holds of the last digit, and of what goes before it with it, holds of the whole
pub by_digits : (P : ℕ → List ℕ → Type 0) (k n : ℕ) → (n < 8 → P n (last_digit n ∷ []))
    → (8 ≤ n → P n (octal_within k (n / 8) ++ last_digit n ∷ []))
    → P n (octal_within (suc k) n)
by_digits P k n one more =
    elim (cases_lt n 8) [ inl h ↦ rw (octal_within_last k n h) (one h) | inr h ↦ rw (octal_within_more k n h) (more h) ]

pub IsAscii_octal_within : (width n : ℕ) → IsAscii (octal_within width n)
unfolding octal_within
IsAscii_octal_within zero n = IsAscii-nil
IsAscii_octal_within (suc k) n =
    by_digits (λ _ ds. IsAscii ds) k n (λ _. IsAscii_last_digit n)
    (λ _. IsAscii-append (octal_within k (n / 8)) (last_digit n ∷ []) (IsAscii_octal_within k (n / 8)) (IsAscii_last_digit n))

pub IsUtf8_octal_within : (width n : ℕ) → IsUtf8 (octal_within width n)
IsUtf8_octal_within width n = IsUtf8-from_ascii _ (IsAscii_octal_within width n)

-- no more digits than a power of 8 above the number says
pub length_octal_within : (width n k : ℕ) → 0 < k → n < 8 ^ k → length (octal_within width n) ≤ k
unfolding octal_within
length_octal_within zero n k p h = omega arith
length_octal_within (suc w) n zero p h = absurd (omega arith)
length_octal_within (suc w) n (suc zero) p h =
    let below : n < 8 = omega arith in
    omega (arith, ap length (octal_within_last w n below))
length_octal_within (suc w) n (suc (suc j)) p h =
    by_digits (λ m ds. length ds ≤ suc (suc j)) w n (λ _. omega arith) (λ q.
    let below : n / 8 < 8 ^ suc j = omega (arith, pow-suc 8 (suc j)) in
    omega (arith, length-append (octal_within w (n / 8)) (last_digit n ∷ []), length_octal_within w (n / 8) (suc j) (omega arith) below))

pub digits_value_octal_within : (width n : ℕ) → 0 < width → n < 8 ^ width → digits_value 8 (octal_within width n) ≡ n
digits_value_octal_within zero n p h = absurd (omega arith)
digits_value_octal_within (suc zero) n p h =
    let below : n < 8 = omega arith in
    ap (digits_value 8) (octal_within_last zero n below) ∙ omega (arith, digits_value_push 8 [] (last_digit n), digit_value_last_digit n)
digits_value_octal_within (suc (suc k)) n p h =
    by_digits (λ m ds. digits_value 8 ds ≡ m) (suc k) n (λ q. omega (arith, digits_value_push 8 [] (last_digit n), digit_value_last_digit n)) (λ q.
    let below : n / 8 < 8 ^ suc k = omega (arith, pow-suc 8 (suc k)) in
    omega (
      arith,
      digits_value_push 8 (octal_within (suc k) (n / 8)) (last_digit n),
      digit_value_last_digit n,
      digits_value_octal_within (suc k) (n / 8) (omega arith) below,
    ))

-- a digit written before the others: the last one, and one before which more stand
pub within_last : (room first n : ℕ) (digits : List ℕ) → length digits ≡ room → 0 < first → first ≤ room → n / 8 ≡ 0
    → take (room - (first - 1)) (drop (first - 1) (set digits (first - 1) (48 + n % 8)))
    ≡ octal_within first n ++ drop first digits
within_last room zero n digits r p h z = absurd (omega arith)
within_last room (suc k) n digits r p h z =
    let e : suc k - 1 ≡ k = omega arith in
    let f : k + 1 ≡ suc k = omega arith in
    rw (e, octal_within_last k n (omega arith), drop-set digits k (48 + n % 8) (omega arith), f) (take_all _ _ (omega (arith, length-drop (suc k) digits)))

pub within_more : (first n : ℕ) (digits : List ℕ) → 0 < first → first ≤ length digits → n / 8 ≢ 0
    → octal_within (first - 1) (n / 8) ++ drop (first - 1) (set digits (first - 1) (48 + n % 8))
    ≡ octal_within first n ++ drop first digits
within_more zero n digits p h z = absurd (omega arith)
within_more (suc k) n digits p h z =
    let e : suc k - 1 ≡ k = omega arith in
    let f : k + 1 ≡ suc k = omega arith in
    rw (e, octal_within_more k n (omega arith), drop-set digits k (48 + n % 8) (omega arith), append_assoc, f) refl

-- room for one more digit
pub below_more_digits : (first n : ℕ) → 0 < first → n < 8 ^ first → n / 8 ≢ 0 → (0 < first - 1) × (n / 8 < 8 ^ (first - 1))
below_more_digits zero n p h z = absurd (omega arith)
below_more_digits (suc zero) n p h z = absurd (z (omega arith))
below_more_digits (suc (suc k)) n p h z =
    let e : suc (suc k) - 1 ≡ suc k = omega arith in
    rw e (omega arith, omega (arith, pow-suc 8 (suc k)))

pub ruleset octal_texts = (length_octal, digits_value_octal, IsUtf8_octal)
