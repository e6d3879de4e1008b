-- LOC, BLOCK and END with a number in octal, as the definitions of what a source means read them.
use Rattle.std.proofs.Common.{◌≡◌, ℕ, zero, suc, ◌+◌, ◌-◌, ◌*◌, ◌/◌, ◌^◌, ◌<◌, ◌≤◌, ◌==◌, ◌||◌, ◌&&◌, List, [], ◌∷◌, ◌++◌, Some, Ok}
use Rattle.std.proofs.Common.{Bool, true, false, length, length-append, drop, replicate, refl, ap, ◌∙◌, arith}
use Rattle.std.specs.Prelude.{pos, int_le}
use Rattle.std.specs.List.{list_all, prefix_len}
use Rattle.std.proofs.lemmas.Bool.{le-leb}
use Rattle.std.proofs.lemmas.Bool.Decides.{nat_tests}
use Rattle.std.proofs.lemmas.Int.{ints}
use Rattle.std.proofs.lemmas.List.{length-replicate}
use Rattle.std.proofs.lemmas.List.Folds.{list_all-append}
use Rattle.std.proofs.lemmas.List.Sums.{fold-append}
use Rattle.std.proofs.Math.Nat.{pow-suc}
use Rattle.word36.specs.Octal.{octal_within, octal_text, last_digit}
use Rattle.word36.proofs.OctalLemmas.{by_digits, octal_within_last}
use Rattle.whole_numbers.specs.Numerals.{digits_value}
use Rattle.mac_text.specs.Characters.{is_blank}
use Rattle.mac_text.specs.Numbers.{is_digit_of}
use Rattle.mac_text.specs.Scan.{after_blanks}
use Rattle.macro_expressions.specs.Values.{Scope, as_natural, optional_at}
use Rattle.macro_meaning.specs.Meaning.{Walk, put_all, putting, scope_of, early_value, early_natural, place_step, block_step, end_step}
use Rattle.meaning_laws.specs.Written.{front, argument, NumbersAreTaken}
use Rattle.meaning_laws.proofs.Written.{line_ends}
use Rattle.meaning_laws.proofs.WrittenWords.{last_is_digit, text_begins, text_read}

pub within_digits : (k n : ℕ) → list_all (is_digit_of 8) (octal_within k n) ≡ true
unfolding octal_within
within_digits zero n = refl
within_digits (suc k) n =
    let last : list_all (is_digit_of 8) (last_digit n ∷ []) ≡ true = rw (last_is_digit n) refl in
    by_digits (λ _ ds. list_all (is_digit_of 8) ds ≡ true) k n (λ _. last)
    (λ _. list_all-append (is_digit_of 8) (octal_within k (n / 8)) (last_digit n ∷ [])
    ∙ rw (within_digits k (n / 8), last) refl)

pub within_some : (k n : ℕ) → 0 < length (octal_within (suc k) n)
within_some k n = by_digits (λ _ ds. 0 < length ds) k n (λ _. omega arith) (λ _. omega (arith, length-append (octal_within k (n / 8)) (last_digit n ∷ [])))

within_value : (k n : ℕ) → 0 < k → n < 8 ^ k → digits_value 8 (octal_within k n) ≡ n
within_value zero n p h = absurd (omega arith)
within_value (suc zero) n p h =
    let small : n < 8 = omega arith in
    ap (digits_value 8) (octal_within_last zero n small) ∙ omega arith
within_value (suc (suc k)) n p h =
    by_digits (λ m ds. digits_value 8 ds ≡ m) (suc k) n (λ q. omega arith) (λ q.
    let below : n / 8 < 8 ^ suc k = omega (arith, pow-suc 8 (suc k)) in
    fold-append (λ m d. m * 8 + (d - 48)) 0 (octal_within (suc k) (n / 8)) (last_digit n ∷ []) ∙ omega (arith, within_value (suc k) (n / 8) (omega arith) below))

pub after_blank : (text : List ℕ) → after_blanks (32 ∷ text) ≡ after_blanks text
after_blank text =
    let n = prefix_len is_blank text in
    let more : 1 + n ≡ suc n = omega arith in
    ap (λ k. drop k (32 ∷ text)) more

argument_read : (scope : Scope) (n : ℕ) (rest : List ℕ) → n < 2 ^ 19 → optional_at scope (front (argument n rest)) ≡ Ok (Some (pos n), front (10 ∷ rest))
argument_read scope n rest h =
    let digits = within_digits 22 n in
    let some = within_some 21 n in
    text_read scope (argument n rest) (octal_text n) (10 ∷ rest) some digits (line_ends rest)
    (after_blank (octal_text n ++ 10 ∷ rest) ∙ (text_begins (octal_text n) (10 ∷ rest) some digits).starts)
    ∙ ap (λ m. Ok (Some (pos m), front (10 ∷ rest))) (within_value 22 n (omega arith) (omega (arith, h)))

natural_by : (n most : ℕ) → (int_le (pos 0) (pos n) && int_le (pos n) (pos most)) ≡ true → as_natural most (pos n) ≡ Ok n
natural_by n most a = rw a refl

natural_fits : (n most : ℕ) → n ≤ most → as_natural most (pos n) ≡ Ok n
natural_fits n most h = natural_by n most (grind (arith, nat_tests, ints))

early_read : (w : Walk) (text tail : List ℕ) (n : ℕ) → optional_at (scope_of [] w) (front text) ≡ Ok (Some (pos n), front tail)
    → early_value w (front text) ≡ Ok (Some (pos n), tail)
unfolding early_value
early_read w text tail n a = rw a refl

natural_read : (most : ℕ) (w : Walk) (text tail : List ℕ) (n : ℕ) → early_value w (front text) ≡ Ok (Some (pos n), tail)
    → as_natural most (pos n) ≡ Ok n → early_natural most w (front text) ≡ Ok (n, tail)
unfolding early_natural
natural_read most w text tail n a b = rw (a, b) refl

early_argument : (most : ℕ) (w : Walk) (n : ℕ) (rest : List ℕ) → n < 2 ^ 19 → n ≤ most
    → early_natural most w (front (argument n rest)) ≡ Ok (n, 10 ∷ rest)
early_argument most w n rest small h =
    natural_read most w (argument n rest) (10 ∷ rest) n
    (early_read w (argument n rest) (10 ∷ rest) n (argument_read (scope_of [] w) n rest small))
    (natural_fits n most h)

placed : (w : Walk) (text tail : List ℕ) (n : ℕ) → early_natural (2 ^ 27) w (front text) ≡ Ok (n, tail)
    → place_step w (front text) ≡ Ok (record w { place = n }, front tail)
unfolding place_step
placed w text tail n a = rw a refl

or_true : (b : Bool) → (b || true) ≡ true
or_true true = refl
or_true false = refl

pub all_put : (words : List ℕ) (w : Walk) → w.place + length words ≤ 2 ^ 18 → putting words w ≡ Ok (put_all words w)
all_put words w h = rw (le-leb (w.place + length words) (2 ^ 18) h, or_true (length words == 0)) refl

blocked : (w : Walk) (text tail : List ℕ) (n : ℕ) → early_natural (2 ^ 18) w (front text) ≡ Ok (n, tail)
    → putting (replicate n 0) w ≡ Ok (put_all (replicate n 0) w)
    → block_step w (front text) ≡ Ok (put_all (replicate n 0) w, front tail)
unfolding block_step
blocked w text tail n a b = rw (a, b) refl

ended_at : (scope : Scope) (w : Walk) (text tail : List ℕ) (n : ℕ) → optional_at scope (front text) ≡ Ok (Some (pos n), front tail)
    → as_natural (2 ^ 18 - 1) (pos n) ≡ Ok n
    → end_step scope w (front text) ≡ Ok (record w { pools = drop 1 w.pools; start = Some n }, front tail)
unfolding end_step
ended_at scope w text tail n a b = rw (a, b) refl

pub numbers_taken : (scope : Scope) (w : Walk) (n : ℕ) (rest : List ℕ) → NumbersAreTaken scope w n rest
numbers_taken scope w n rest =
    record {
      loc = λ h. placed w (argument n rest) (10 ∷ rest) n (early_argument (2 ^ 27) w n rest (omega (arith, h)) (omega (arith, h)));
      block =
          λ h fits.
          blocked w (argument n rest) (10 ∷ rest) n (early_argument (2 ^ 18) w n rest (omega (arith, h)) h)
          (all_put (replicate n 0) w (omega (arith, fits, length-replicate {A = ℕ} n 0)));
      end =
          λ h.
          ended_at scope w (argument n rest) (10 ∷ rest) n (argument_read scope n rest (omega (arith, h)))
          (natural_fits n (2 ^ 18 - 1) (omega (arith, h)));
    }
