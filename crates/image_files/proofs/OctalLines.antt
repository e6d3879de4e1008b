-- Words as lines in octal: they are read from their lines, and lines that are read are those of the words.
use Rattle.std.proofs.Common.{◌≡◌, ◌∙◌, sym, ap, ℕ, suc, ◌+◌, ◌*◌, ◌/◌, ◌%◌, ◌^◌, ◌<◌, ◌≤◌, ◌==◌, Bool, true, ◌&&◌, nat_le, nat_lt}
use Rattle.std.proofs.Common.{List, [], ◌∷◌, ◌++◌, Ok, refl, arith, length, drop}
use Rattle.std.proofs.lemmas.Bool.{and_parts, eqb-true}
use Rattle.std.proofs.lemmas.Bool.Decides.{nat_tests}
use Rattle.std.proofs.lemmas.Grind.{common_steps}
use Rattle.std.specs.Prelude.{flat_map, codes}
use Rattle.word36.specs.Octal.{octal, last_digit}
use Rattle.word36.specs.Words.{joined, left_half, right_half}
use Rattle.image_files.specs.declared.packings.PackErrorKind.TheVariants.{CutShort, NotOctal}
use Rattle.image_files.specs.Packings.{Words, with_word, wrong_at, word_or, is_octal_digit, are_octal_digits, are_marks, half_value, octal_bytes, octal_words}
use Rattle.image_files.specs.WordForms.{begins_with_line, line_value}
use Rattle.image_files.proofs.Bounds.{AreBelow}
use Rattle.image_files.proofs.UnpackLemmas.{ReadsEach}

-- ---- from words to lines and back

digit_is : (n : ℕ) → is_octal_digit (48 + n % 8) ≡ true
digit_is n =
    let small : n % 8 < 8 = omega arith in
    grind (arith, common_steps)

last_is : (v n : ℕ) → v ≡ n / 8 → v * 8 + (48 + n % 8) % 8 ≡ n
last_is v n e = omega (arith, e)

half_read : (n : ℕ) → n < 2 ^ 18
    → half_value (48 + n / 8 / 8 / 8 / 8 / 8 % 8) (48 + n / 8 / 8 / 8 / 8 % 8) (48 + n / 8 / 8 / 8 % 8) (48 + n / 8 / 8 % 8) (48 + n / 8 % 8) (48 + n % 8) ≡ n
half_read n h =
    let first : (48 + n / 8 / 8 / 8 / 8 / 8 % 8) % 8 ≡ n / 8 / 8 / 8 / 8 / 8 = omega arith in
    let second = last_is ((48 + n / 8 / 8 / 8 / 8 / 8 % 8) % 8) (n / 8 / 8 / 8 / 8) first in
    let third = last_is ((48 + n / 8 / 8 / 8 / 8 / 8 % 8) % 8 * 8 + (48 + n / 8 / 8 / 8 / 8 % 8) % 8) (n / 8 / 8 / 8) second in
    let fourth = last_is _ (n / 8 / 8) third in
    let fifth = last_is _ (n / 8) fourth in
    last_is _ n fifth

half_digits : (n : ℕ)
    → are_octal_digits (48 + n / 8 / 8 / 8 / 8 / 8 % 8) (48 + n / 8 / 8 / 8 / 8 % 8) (48 + n / 8 / 8 / 8 % 8) (48 + n / 8 / 8 % 8) (48 + n / 8 % 8) (48 + n % 8)
    ≡ true
half_digits n =
    rw (digit_is (n / 8 / 8 / 8 / 8 / 8), digit_is (n / 8 / 8 / 8 / 8), digit_is (n / 8 / 8 / 8), digit_is (n / 8 / 8), digit_is (n / 8), digit_is n) refl

-- the digits of two halves and the marks
both_are : (s t : Bool) → s ≡ true → t ≡ true → (s && (t && true)) ≡ true
both_are s t h k = rw (h, k) refl

joined_back : (w : ℕ) → joined (left_half w) (right_half w) ≡ w
joined_back w = omega arith

abbrev first_digits : ℕ → Bool
first_digits n =
    are_octal_digits (48 + n / 8 / 8 / 8 / 8 / 8 % 8) (48 + n / 8 / 8 / 8 / 8 % 8) (48 + n / 8 / 8 / 8 % 8) (48 + n / 8 / 8 % 8) (48 + n / 8 % 8) (48 + n % 8)

abbrev digits_value : ℕ → ℕ
digits_value n =
    half_value (48 + n / 8 / 8 / 8 / 8 / 8 % 8) (48 + n / 8 / 8 / 8 / 8 % 8) (48 + n / 8 / 8 / 8 % 8) (48 + n / 8 / 8 % 8) (48 + n / 8 % 8) (48 + n % 8)

line_read : (number w : ℕ) (r : Words) → w < 2 ^ 36
    → word_or NotOctal number (first_digits (left_half w) && (first_digits (right_half w) && true)) (joined (digits_value (left_half w)) (digits_value (right_half w))) r
    ≡ with_word w r
line_read number w r h =
    ap (λ t. word_or NotOctal number t (joined (digits_value (left_half w)) (digits_value (right_half w))) r)
    (both_are (first_digits (left_half w)) (first_digits (right_half w)) (half_digits (left_half w)) (half_digits (right_half w)))
    ∙ (ap (λ n. with_word (joined n (digits_value (right_half w))) r) (half_read (left_half w) (omega arith))
    ∙ (ap (λ n. with_word (joined (left_half w) n) r) (half_read (right_half w) (omega arith))
    ∙ ap (λ n. with_word n r) (joined_back w)))

pub octal_read : (ws : List ℕ) (number : ℕ) → AreBelow (2 ^ 36) ws → octal_words number (flat_map octal_bytes ws) ≡ Ok ws
unfolding octal_words octal
octal_read [] number h = refl
octal_read (w ∷ ws) number h =
    line_read number w (octal_words (number + 1) (flat_map octal_bytes ws)) h.0 ∙ ap (with_word w) (octal_read ws (number + 1) h.1)

-- ---- from lines to words and back

digit_from : (c : ℕ) → is_octal_digit c ≡ true → (48 ≤ c) × (c < 56)
digit_from c h =
    let p = and_parts (nat_le 48 c) (nat_lt c 56) h in
    let low : 48 ≤ c = grind (arith, nat_tests) in
    let high : c < 56 = grind (arith, nat_tests) in
    (low, high)

-- a digit behind others
digit_behind : (k v c : ℕ) → is_octal_digit c ≡ true → octal (suc k) (v * 8 + c % 8) ≡ octal k v ++ c ∷ []
unfolding octal
digit_behind k v c h =
    let is = digit_from c h in
    let front : (v * 8 + c % 8) / 8 ≡ v = omega arith in
    let last : last_digit (v * 8 + c % 8) ≡ c = omega (arith, is.0, is.1) in
    ap (λ n. octal k n ++ last_digit (v * 8 + c % 8) ∷ []) front ∙ ap (λ n. octal k v ++ n ∷ []) last

digit_alone : (c : ℕ) → is_octal_digit c ≡ true → octal 1 (c % 8) ≡ c ∷ []
unfolding octal
digit_alone c h =
    let is = digit_from c h in
    let last : last_digit (c % 8) ≡ c = omega (arith, is.0, is.1) in
    ap (λ n. n ∷ []) last

half_same : (a b c d e f : ℕ) → are_octal_digits a b c d e f ≡ true → octal 6 (half_value a b c d e f) ≡ a ∷ b ∷ c ∷ d ∷ e ∷ f ∷ []
half_same a b c d e f h =
    let p = and_parts (is_octal_digit a) (is_octal_digit b && (is_octal_digit c && (is_octal_digit d && (is_octal_digit e && is_octal_digit f)))) h in
    let q = and_parts (is_octal_digit b) (is_octal_digit c && (is_octal_digit d && (is_octal_digit e && is_octal_digit f))) p.1 in
    let r = and_parts (is_octal_digit c) (is_octal_digit d && (is_octal_digit e && is_octal_digit f)) q.1 in
    let s = and_parts (is_octal_digit d) (is_octal_digit e && is_octal_digit f) r.1 in
    let t = and_parts (is_octal_digit e) (is_octal_digit f) s.1 in
    let two = digit_behind 1 (a % 8) b q.0 ∙ ap (λ l. l ++ b ∷ []) (digit_alone a p.0) in
    let three = digit_behind 2 (a % 8 * 8 + b % 8) c r.0 ∙ ap (λ l. l ++ c ∷ []) two in
    let four = digit_behind 3 ((a % 8 * 8 + b % 8) * 8 + c % 8) d s.0 ∙ ap (λ l. l ++ d ∷ []) three in
    let five = digit_behind 4 (((a % 8 * 8 + b % 8) * 8 + c % 8) * 8 + d % 8) e t.0 ∙ ap (λ l. l ++ e ∷ []) four in
    digit_behind 5 ((((a % 8 * 8 + b % 8) * 8 + c % 8) * 8 + d % 8) * 8 + e % 8) f t.1 ∙ ap (λ l. l ++ f ∷ []) five

half_small : (a b c d e f : ℕ) → half_value a b c d e f < 2 ^ 18
half_small a b c d e f = omega arith

joined_left : (x y : ℕ) → y < 2 ^ 18 → left_half (joined x y) ≡ x
joined_left x y h = omega arith

joined_right : (x y : ℕ) → y < 2 ^ 18 → right_half (joined x y) ≡ y
joined_right x y h = omega arith

pub line_same : (a b c d e f p q g i j k l m z : ℕ)
    → (are_octal_digits a b c d e f && (are_octal_digits g i j k l m && are_marks p q z)) ≡ true
    → octal_bytes (joined (half_value a b c d e f) (half_value g i j k l m)) ≡ (a ∷ b ∷ c ∷ d ∷ e ∷ f ∷ p ∷ q ∷ g ∷ i ∷ j ∷ k ∷ l ∷ m ∷ z ∷ [])
unfolding octal
line_same a b c d e f p q g i j k l m z h =
    let x = half_value a b c d e f in
    let y = half_value g i j k l m in
    let small = half_small g i j k l m in
    let digits = and_parts (are_octal_digits a b c d e f) (are_octal_digits g i j k l m && are_marks p q z) h in
    let others = and_parts (are_octal_digits g i j k l m) (are_marks p q z) digits.1 in
    let marks = and_parts (p == 44) (q == 44 && z == 10) others.1 in
    let ends = and_parts (q == 44) (z == 10) marks.1 in
    let first : 44 ≡ p = sym (eqb-true p 44 marks.0) in
    let second : 44 ≡ q = sym (eqb-true q 44 ends.0) in
    let third : 10 ≡ z = sym (eqb-true z 10 ends.1) in
    ap (λ n. (octal 6 n ++ (codes ",," ++ octal 6 (right_half (joined x y)))) ++ codes "\n") (joined_left x y small)
    ∙ (ap (λ n. (octal 6 x ++ (codes ",," ++ octal 6 n)) ++ codes "\n") (joined_right x y small)
    ∙ (ap (λ t. (t ++ (codes ",," ++ octal 6 y)) ++ codes "\n") (half_same a b c d e f digits.0)
    ∙ (ap (λ t. ((a ∷ b ∷ c ∷ d ∷ e ∷ f ∷ []) ++ (codes ",," ++ t)) ++ codes "\n") (half_same g i j k l m others.0)
    ∙ (ap (λ n. a ∷ b ∷ c ∷ d ∷ e ∷ f ∷ n ∷ 44 ∷ g ∷ i ∷ j ∷ k ∷ l ∷ m ∷ 10 ∷ []) first
    ∙ (ap (λ n. a ∷ b ∷ c ∷ d ∷ e ∷ f ∷ p ∷ n ∷ g ∷ i ∷ j ∷ k ∷ l ∷ m ∷ 10 ∷ []) second
    ∙ ap (λ n. a ∷ b ∷ c ∷ d ∷ e ∷ f ∷ p ∷ q ∷ g ∷ i ∷ j ∷ k ∷ l ∷ m ∷ n ∷ []) third)))))

pub line_small : (a b c d e f g i j k l m : ℕ) → joined (half_value a b c d e f) (half_value g i j k l m) < 2 ^ 36
line_small a b c d e f g i j k l m = omega (arith, half_small a b c d e f, half_small g i j k l m)

-- ---- the loop that reads lines

octal_none : (n : ℕ) → octal_words n [] ≡ Ok []
unfolding octal_words
octal_none n = refl

octal_cut : (n : ℕ) (bs : List ℕ) → 0 < length bs → length bs < 15 → octal_words n bs ≡ wrong_at n CutShort
unfolding octal_words
octal_cut n [] some few = absurd (omega arith)
octal_cut n (a ∷ []) some few = refl
octal_cut n (a ∷ b ∷ []) some few = refl
octal_cut n (a ∷ b ∷ c ∷ []) some few = refl
octal_cut n (a ∷ b ∷ c ∷ d ∷ []) some few = refl
octal_cut n (a ∷ b ∷ c ∷ d ∷ e ∷ []) some few = refl
octal_cut n (a ∷ b ∷ c ∷ d ∷ e ∷ f ∷ []) some few = refl
octal_cut n (a ∷ b ∷ c ∷ d ∷ e ∷ f ∷ p ∷ []) some few = refl
octal_cut n (a ∷ b ∷ c ∷ d ∷ e ∷ f ∷ p ∷ q ∷ []) some few = refl
octal_cut n (a ∷ b ∷ c ∷ d ∷ e ∷ f ∷ p ∷ q ∷ g ∷ []) some few = refl
octal_cut n (a ∷ b ∷ c ∷ d ∷ e ∷ f ∷ p ∷ q ∷ g ∷ h ∷ []) some few = refl
octal_cut n (a ∷ b ∷ c ∷ d ∷ e ∷ f ∷ p ∷ q ∷ g ∷ h ∷ i ∷ []) some few = refl
octal_cut n (a ∷ b ∷ c ∷ d ∷ e ∷ f ∷ p ∷ q ∷ g ∷ h ∷ i ∷ j ∷ []) some few = refl
octal_cut n (a ∷ b ∷ c ∷ d ∷ e ∷ f ∷ p ∷ q ∷ g ∷ h ∷ i ∷ j ∷ k ∷ []) some few = refl
octal_cut n (a ∷ b ∷ c ∷ d ∷ e ∷ f ∷ p ∷ q ∷ g ∷ h ∷ i ∷ j ∷ k ∷ l ∷ []) some few = refl
octal_cut n (a ∷ b ∷ c ∷ d ∷ e ∷ f ∷ p ∷ q ∷ g ∷ h ∷ i ∷ j ∷ k ∷ l ∷ z ∷ more) some few = absurd (omega arith)

octal_first : (n : ℕ) (bs : List ℕ) → 15 ≤ length bs
    → octal_words n bs ≡ word_or NotOctal n (begins_with_line bs) (line_value bs) (octal_words (n + 1) (drop 15 bs))
unfolding octal_words
octal_first n [] few = absurd (omega arith)
octal_first n (a ∷ []) few = absurd (omega arith)
octal_first n (a ∷ b ∷ []) few = absurd (omega arith)
octal_first n (a ∷ b ∷ c ∷ []) few = absurd (omega arith)
octal_first n (a ∷ b ∷ c ∷ d ∷ []) few = absurd (omega arith)
octal_first n (a ∷ b ∷ c ∷ d ∷ e ∷ []) few = absurd (omega arith)
octal_first n (a ∷ b ∷ c ∷ d ∷ e ∷ f ∷ []) few = absurd (omega arith)
octal_first n (a ∷ b ∷ c ∷ d ∷ e ∷ f ∷ p ∷ []) few = absurd (omega arith)
octal_first n (a ∷ b ∷ c ∷ d ∷ e ∷ f ∷ p ∷ q ∷ []) few = absurd (omega arith)
octal_first n (a ∷ b ∷ c ∷ d ∷ e ∷ f ∷ p ∷ q ∷ g ∷ []) few = absurd (omega arith)
octal_first n (a ∷ b ∷ c ∷ d ∷ e ∷ f ∷ p ∷ q ∷ g ∷ h ∷ []) few = absurd (omega arith)
octal_first n (a ∷ b ∷ c ∷ d ∷ e ∷ f ∷ p ∷ q ∷ g ∷ h ∷ i ∷ []) few = absurd (omega arith)
octal_first n (a ∷ b ∷ c ∷ d ∷ e ∷ f ∷ p ∷ q ∷ g ∷ h ∷ i ∷ j ∷ []) few = absurd (omega arith)
octal_first n (a ∷ b ∷ c ∷ d ∷ e ∷ f ∷ p ∷ q ∷ g ∷ h ∷ i ∷ j ∷ k ∷ []) few = absurd (omega arith)
octal_first n (a ∷ b ∷ c ∷ d ∷ e ∷ f ∷ p ∷ q ∷ g ∷ h ∷ i ∷ j ∷ k ∷ l ∷ []) few = absurd (omega arith)
octal_first n (a ∷ b ∷ c ∷ d ∷ e ∷ f ∷ p ∷ q ∷ g ∷ h ∷ i ∷ j ∷ k ∷ l ∷ z ∷ more) few = refl

pub octal_each : ReadsEach NotOctal octal_words 15 begins_with_line line_value
octal_each = record { none = octal_none; cut = octal_cut; first = octal_first }
