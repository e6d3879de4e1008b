-- A line that is a word in octal, as the definitions of what a source means read it.
use Rattle.std.proofs.Common.{◌≡◌, ℕ, ℤ, zero, suc, ◌+◌, ◌-◌, ◌*◌, ◌/◌, ◌^◌, ◌<◌, List, [], ◌∷◌, ◌++◌, Some, None, Ok}
use Rattle.std.proofs.Common.{true, length, refl, ap, ◌∙◌, inl, inr, append_assoc, arith}
use Rattle.std.specs.Prelude.{pos, negsuc, ◌+ℤ◌, unsigned_abs}
use Rattle.std.specs.List.{list_all}
use Rattle.std.proofs.lemmas.Bool.{lt-ltb, le-ltb, lt-leb, le-leb, cases_lt, and_parts}
use Rattle.std.proofs.lemmas.Bool.Decides.{nat_tests}
use Rattle.std.proofs.lemmas.Int.{ints}
use Rattle.std.proofs.lemmas.List.Folds.{list_all-append}
use Rattle.std.proofs.lemmas.List.Sums.{fold-append}
use Rattle.std.proofs.Math.Nat.{pow-suc}
use Rattle.word36.specs.Octal.{octal, word_text, last_digit}
use Rattle.word36.specs.Words.{signed_value, left_half, right_half, joined}
use Rattle.word36.proofs.OctalLemmas.{length_octal}
use Rattle.whole_numbers.specs.Numerals.{digits_value}
use Rattle.mac_text.specs.Numbers.{is_digit_of}
use Rattle.mac_text.specs.Scan.{after_blanks}
use Rattle.macro_values.specs.Values.{has_word, word_at}
use Rattle.macro_expressions.specs.Values.{Scope, as_word, optional_at}
use Rattle.macro_statements.specs.Words.{as_half, word_value_at, value_words}
use Rattle.macro_meaning.specs.Meaning.{Walk, put, step, unlabelled_step, named_step, scope_of}
use Rattle.meaning_laws.specs.Written.{front}
use Rattle.meaning_laws.proofs.Written.{BeginsNumber, EndsNumber, begins, line_ends, comma_ends, digits_read}

-- ---- the digits of a half

pub last_is_digit : (n : ℕ) → is_digit_of 8 (last_digit n) ≡ true
last_is_digit n = grind (arith, nat_tests)

pub octal_digits : (k n : ℕ) → list_all (is_digit_of 8) (octal k n) ≡ true
unfolding octal
octal_digits zero n = refl
octal_digits (suc k) n =
    let last : list_all (is_digit_of 8) (last_digit n ∷ []) ≡ true = rw (last_is_digit n) refl in
    list_all-append (is_digit_of 8) (octal k (n / 8)) (last_digit n ∷ []) ∙ rw (octal_digits k (n / 8), last) refl

pub octal_value : (k n : ℕ) → n < 8 ^ k → digits_value 8 (octal k n) ≡ n
unfolding octal
octal_value zero n h = omega arith
octal_value (suc k) n h =
    let below : n / 8 < 8 ^ k = omega (arith, pow-suc 8 k) in
    fold-append (λ m d. m * 8 + (d - 48)) 0 (octal k (n / 8)) (last_digit n ∷ []) ∙ omega (arith, octal_value k (n / 8) below)

-- a text of digits that is not empty begins as a number, and is read as one
pub text_begins : (ds tail : List ℕ) → 0 < length ds → list_all (is_digit_of 8) ds ≡ true → BeginsNumber (ds ++ tail)
text_begins [] tail some h = absurd (omega arith)
text_begins (d ∷ ds) tail some h = begins d (ds ++ tail) (and_parts (is_digit_of 8 d) (list_all (is_digit_of 8) ds) h).0

pub text_read : (scope : Scope) (before ds tail : List ℕ) → 0 < length ds → list_all (is_digit_of 8) ds ≡ true → EndsNumber tail
    → after_blanks before ≡ ds ++ tail
    → optional_at scope (front before) ≡ Ok (Some (pos (digits_value 8 ds)), front tail)
text_read scope before [] tail some h end a = absurd (omega arith)
text_read scope before (d ∷ ds) tail some h end a = digits_read scope before d ds tail h end a

pub half_some : (n : ℕ) → 0 < length (octal 6 n)
half_some n = omega (arith, length_octal 6 n)

half_begins : (n : ℕ) (tail : List ℕ) → BeginsNumber (octal 6 n ++ tail)
half_begins n tail = text_begins (octal 6 n) tail (half_some n) (octal_digits 6 n)

half_read : (scope : Scope) (n : ℕ) (tail : List ℕ) → n < 2 ^ 18 → EndsNumber tail
    → optional_at scope (front (octal 6 n ++ tail)) ≡ Ok (Some (pos n), front tail)
half_read scope n tail h end =
    text_read scope (octal 6 n ++ tail) (octal 6 n) tail (half_some n) (octal_digits 6 n) end (half_begins n tail).starts
    ∙ ap (λ m. Ok (Some (pos m), front tail)) (octal_value 6 n (omega (arith, h)))

-- ---- values and words

half_fits : (n : ℕ) → n < 2 ^ 18 → as_half (pos n) ≡ Ok n
half_fits n h = rw (lt-ltb n (2 ^ 18) h, le-ltb n 0 (omega arith)) refl

fits : (z : ℤ) (w : ℕ) → has_word z ≡ true → word_at z ≡ w → as_word z ≡ Ok w
fits z w a b = rw (a, b) refl

low_fits : (w : ℕ) → w < 2 ^ 35 → as_word (pos w) ≡ Ok w
low_fits w h =
    fits (pos w) w (rw (lt-ltb w (2 ^ 36) (omega (arith, h))) refl) (rw (le-ltb w 0 (omega arith)) refl)

high_fits : (k w : ℕ) → k < 2 ^ 35 → suc k + w ≡ 2 ^ 36 → as_word (negsuc k) ≡ Ok w
high_fits k w h e =
    let sum : negsuc k +ℤ pos (2 ^ 36) ≡ pos w = omega (arith, ints, e) in
    fits (negsuc k) w (grind (arith, ints)) (ap unsigned_abs sum)

word_fits : (w : ℕ) → w < 2 ^ 36 → as_word (signed_value w) ≡ Ok w
word_fits w b = elim (cases_lt w (2 ^ 35)) [
  | inl h ↦
      let low : signed_value w ≡ pos w = rw (lt-leb (2 ^ 35) w h) refl in
      ap as_word low ∙ low_fits w h
  | inr h ↦
      let high : signed_value w ≡ negsuc (2 ^ 36 - w - 1) = rw (le-leb (2 ^ 35) w h) (omega (arith, ints, h, b)) in
      ap as_word high ∙ high_fits (2 ^ 36 - w - 1) w (omega (arith, h)) (omega (arith, b))
]

-- ---- the line of a word

halves_read : (scope : Scope) (text right tail : List ℕ) (l r : ℕ) → BeginsNumber text
    → optional_at scope (front text) ≡ Ok (Some (pos l), front (44 ∷ 44 ∷ right))
    → optional_at scope (front right) ≡ Ok (Some (pos r), front tail)
    → as_half (pos l) ≡ Ok l → as_half (pos r) ≡ Ok r
    → word_value_at scope (front text) ≡ Ok (Some (signed_value (joined l r)), front tail)
unfolding word_value_at
halves_read scope text right tail l r begin a b c e = rw (begin.starts, begin.at_sign, a, b, c, e) refl

value_read : (scope : Scope) (text tail : List ℕ) (z : ℤ) (w : ℕ) → word_value_at scope (front text) ≡ Ok (Some z, front tail)
    → as_word z ≡ Ok w → value_words scope (front text) ≡ Ok (w ∷ [], front tail)
unfolding value_words
value_read scope text tail z w a b = rw (a, b) refl

-- the text of a word, and then the end of its line
abbrev pub word_line : ℕ → List ℕ → List ℕ
word_line w rest = octal 6 (left_half w) ++ (44 ∷ 44 ∷ (octal 6 (right_half w) ++ 10 ∷ rest))

pub word_line_is : (w : ℕ) (rest : List ℕ) → word_text w ++ 10 ∷ rest ≡ word_line w rest
unfolding octal
word_line_is w rest = append_assoc (octal 6 (left_half w)) (44 ∷ 44 ∷ octal 6 (right_half w)) (10 ∷ rest)

word_begins : (w : ℕ) (rest : List ℕ) → BeginsNumber (word_line w rest)
word_begins w rest = half_begins (left_half w) (44 ∷ 44 ∷ (octal 6 (right_half w) ++ 10 ∷ rest))

word_read : (scope : Scope) (w : ℕ) (rest : List ℕ) → w < 2 ^ 36 → value_words scope (front (word_line w rest)) ≡ Ok (w ∷ [], front (10 ∷ rest))
word_read scope w rest h =
    let l : left_half w < 2 ^ 18 = omega (arith, h) in
    let r : right_half w < 2 ^ 18 = omega arith in
    let whole : joined (left_half w) (right_half w) ≡ w = omega arith in
    let right = octal 6 (right_half w) ++ 10 ∷ rest in
    let halves =
    halves_read scope (word_line w rest) right (10 ∷ rest) (left_half w) (right_half w) (word_begins w rest)
    (half_read scope (left_half w) (44 ∷ 44 ∷ right) l (comma_ends (44 ∷ right)))
    (half_read scope (right_half w) (10 ∷ rest) r (line_ends rest)) (half_fits (left_half w) l) (half_fits (right_half w) r)
    in
    value_read scope (word_line w rest) (10 ∷ rest) (signed_value (joined (left_half w) (right_half w))) w halves
    (ap (λ v. as_word (signed_value v)) whole ∙ word_fits w h)

step_of_word : (table : List (ℕ × ℤ)) (w : Walk) (text rest : List ℕ) (word : ℕ) → BeginsNumber text → w.place < 2 ^ 18
    → value_words (scope_of table w) (front text) ≡ Ok (word ∷ [], front (10 ∷ rest))
    → step table w (front text) ≡ Ok (None, (put word w, front (10 ∷ rest)))
unfolding step unlabelled_step named_step
step_of_word table w text rest word begin h a = rw (begin.name, begin.name, begin.name, begin.name, begin.name, begin.mark, a, le-leb (w.place + 1) (2 ^ 18) (omega (arith, h))) refl

-- a line that is a word puts that word at the place that is next
pub word_is_put : (table : List (ℕ × ℤ)) (w : Walk) (word : ℕ) (rest : List ℕ) → word < 2 ^ 36 → w.place < 2 ^ 18
    → step table w (front (word_text word ++ 10 ∷ rest)) ≡ Ok (None, (put word w, front (10 ∷ rest)))
word_is_put table w word rest h p =
    ap (λ text. step table w (front text)) (word_line_is word rest)
    ∙ step_of_word table w (word_line word rest) rest word (word_begins word rest) p (word_read (scope_of table w) word rest h)
