-- Numbers as they are printed, and how an expression reads them.
use Rattle.std.proofs.Common.{◌≡◌, ℕ, zero, suc, ◌+◌, ◌-◌, ◌*◌, ◌/◌, ◌^◌, ◌<◌, ◌≤◌, ◌&&◌, not, List, [], ◌∷◌, ◌++◌, Option, Some, None}
use Rattle.std.proofs.Common.{Bool, true, false, length, length-append, take, drop, refl, ap, ◌∙◌, arith}
use Rattle.std.specs.Prelude.{nat_lt}
use Rattle.std.specs.List.{list_all, prefix_len}
use Rattle.std.proofs.lemmas.Bool.{and_parts, not-true, ne_eqb}
use Rattle.std.proofs.lemmas.Bool.Decides.{nat_tests}
use Rattle.std.proofs.lemmas.List.Folds.{list_all-append}
use Rattle.std.proofs.lemmas.List.Sums.{fold-append}
use Rattle.std.proofs.Math.Seq.{take-append_seam, drop-append_seam}
use Rattle.std.proofs.Math.Nat.{pow-suc}
use Rattle.word36.specs.Octal.{octal_within, octal_text, last_digit}
use Rattle.word36.proofs.OctalLemmas.{by_digits, octal_within_last}
use Rattle.mac_text.specs.Characters.{is_blank, is_digit, is_name_character}
use Rattle.mac_text.specs.Names.{is_name}
use Rattle.whole_numbers.specs.Numerals.{digits_value}
use Rattle.mac_text.specs.Numbers.{is_digit_of, number_of}
use Rattle.mac_text.specs.Scan.{Scan, after_blanks, begins_with, begins_expression, word_of, items_at}
use Rattle.mac_text.specs.Texts.{after_word}
use Rattle.mac_text.specs.Expressions.{term_of_word, word_term_at, term_at, sign_at, signed_at, next_term_at, expression_at, optional_at}
use Rattle.mac_text.specs.Printed.{number_alone}
use Rattle.mac_text.specs.declared.syntax.Term.{Term}
use Rattle.mac_text.specs.declared.syntax.Term.TheVariants.{Number}

-- a place in a line that has no literals, its numbers in octal
abbrev pub place : List ℕ → Scan
place rest = record { radix = 8; in_literal = false; cuts = []; rest = rest }

-- ---- words

abbrev pub ends_word : List ℕ → Bool
ends_word [] = true
ends_word (c ∷ cs) = not (is_name_character c)

word_length : (word tail : List ℕ) → list_all is_name_character word ≡ true → ends_word tail ≡ true → prefix_len is_name_character (word ++ tail) ≡ length word
word_length [] [] h e = refl
word_length [] (c ∷ cs) h e = rw (not-true (is_name_character c) e) refl
word_length (c ∷ cs) tail h e =
    let p = and_parts (is_name_character c) (list_all is_name_character cs) h in
    rw p.0 (omega (arith, word_length cs tail p.1 e))

pub word_read : (word tail : List ℕ) → list_all is_name_character word ≡ true → ends_word tail ≡ true → word_of (word ++ tail) ≡ word
word_read word tail h e = ap (λ n. take n (word ++ tail)) (word_length word tail h e) ∙ take-append_seam word tail

pub behind_read : (word tail : List ℕ) → list_all is_name_character word ≡ true → ends_word tail ≡ true → after_word (word ++ tail) ≡ tail
behind_read word tail h e = ap (λ n. drop n (word ++ tail)) (word_length word tail h e) ∙ drop-append_seam word tail

-- ---- digits

digit_between : (d : ℕ) → is_digit_of 8 d ≡ true → (48 ≤ d) × (d < 56)
digit_between d h = grind (arith, nat_tests)

digit_is_name_character : (d : ℕ) → is_digit_of 8 d ≡ true → is_name_character d ≡ true
digit_is_name_character d h = grind (arith, nat_tests)

digit_is_no_blank : (d : ℕ) → is_digit_of 8 d ≡ true → is_blank d ≡ false
digit_is_no_blank d h = grind (arith, nat_tests)

digit_is_digit : (d : ℕ) → is_digit_of 8 d ≡ true → is_digit d ≡ true
digit_is_digit d h = grind (arith, nat_tests)

last_is_digit : (n : ℕ) → is_digit_of 8 (last_digit n) ≡ true
last_is_digit n = grind (arith, nat_tests)

pub digits_are_name_characters : (ds : List ℕ) → list_all (is_digit_of 8) ds ≡ true → list_all is_name_character ds ≡ true
digits_are_name_characters [] h = refl
digits_are_name_characters (d ∷ ds) h =
    let p = and_parts (is_digit_of 8 d) (list_all (is_digit_of 8) ds) h in
    rw (digit_is_name_character d p.0, digits_are_name_characters ds p.1) refl

digits_are_no_name : (d : ℕ) (ds : List ℕ) → is_digit_of 8 d ≡ true → is_name (d ∷ ds) ≡ false
digits_are_no_name d [] h = rw (digit_is_digit d h) refl
digits_are_no_name d (e ∷ es) h = rw (digit_is_digit d h) refl

octal_digits : (k n : ℕ) → list_all (is_digit_of 8) (octal_within k n) ≡ true
unfolding octal_within
octal_digits zero n = refl
octal_digits (suc k) n =
    let last : list_all (is_digit_of 8) (last_digit n ∷ []) ≡ true = rw (last_is_digit n) refl in
    by_digits (λ _ ds. list_all (is_digit_of 8) ds ≡ true) k n (λ _. last)
    (λ _. list_all-append (is_digit_of 8) (octal_within k (n / 8)) (last_digit n ∷ [])
    ∙ rw (octal_digits k (n / 8), last) refl)

octal_some : (k n : ℕ) → 0 < length (octal_within (suc k) n)
octal_some k n = by_digits (λ _ ds. 0 < length ds) k n (λ _. omega arith) (λ _. omega (arith, length-append (octal_within k (n / 8)) (last_digit n ∷ [])))

octal_value : (k n : ℕ) → 0 < k → n < 8 ^ k → digits_value 8 (octal_within k n) ≡ n
octal_value zero n p h = absurd (omega arith)
octal_value (suc zero) n p h =
    let small : n < 8 = omega arith in
    ap (digits_value 8) (octal_within_last zero n small) ∙ omega arith
octal_value (suc (suc k)) n p h =
    by_digits (λ m ds. digits_value 8 ds ≡ m) (suc k) n (λ q. omega arith) (λ q.
    let below : n / 8 < 8 ^ suc k = omega (arith, pow-suc 8 (suc k)) in
    fold-append (λ m d. m * 8 + (d - 48)) 0 (octal_within (suc k) (n / 8)) (last_digit n ∷ []) ∙ omega (arith, octal_value (suc k) (n / 8) (omega arith) below))

-- ---- terms and expressions

-- how a text that is read as a number begins
pub record BeginsNumber (text : List ℕ) : Type 0 where
  pub starts : after_blanks text ≡ text
  pub plus : begins_with 43 text ≡ false
  pub minus : begins_with 45 text ≡ false
  pub at_sign : begins_with 64 text ≡ false
  pub bracket : begins_with 91 text ≡ false
  pub arrow : begins_with 94 text ≡ false
  pub expression : begins_expression text ≡ true

-- what may stand behind an expression
pub record EndsExpression (text : List ℕ) : Type 0 where
  pub starts : after_blanks text ≡ text
  pub plus : begins_with 43 text ≡ false
  pub minus : begins_with 45 text ≡ false
  pub word : ends_word text ≡ true

begins : (ds tail : List ℕ) → 0 < length ds → list_all (is_digit_of 8) ds ≡ true → BeginsNumber (ds ++ tail)
begins [] tail some h = absurd (omega arith)
begins (d ∷ ds) tail some h =
    let is = (and_parts (is_digit_of 8 d) (list_all (is_digit_of 8) ds) h).0 in
    let within = digit_between d is in
    record {
      starts = rw (digit_is_no_blank d is) refl;
      plus = ne_eqb d 43 (λ e. omega (arith, within.0));
      minus = ne_eqb d 45 (λ e. omega (arith, within.0));
      at_sign = ne_eqb d 64 (λ e. omega (arith, within.1));
      bracket = ne_eqb d 91 (λ e. omega (arith, within.1));
      arrow = ne_eqb d 94 (λ e. omega (arith, within.1));
      expression =
          rw (
            ne_eqb d 43 (λ e. omega (arith, within.0)),
            ne_eqb d 45 (λ e. omega (arith, within.0)),
            ne_eqb d 94 (λ e. omega (arith, within.1)),
            ne_eqb d 91 (λ e. omega (arith, within.1)),
            digit_is_name_character d is,
          )
          refl;
    }

pub octal_begins : (n : ℕ) (tail : List ℕ) → BeginsNumber (octal_text n ++ tail)
octal_begins n tail = begins (octal_text n) tail (octal_some 21 n) (octal_digits 22 n)

term_of_digits : (ds : List ℕ) → 0 < length ds → list_all (is_digit_of 8) ds ≡ true → term_of_word 8 ds ≡ Some (Number (digits_value 8 ds))
unfolding number_of
term_of_digits [] some h = absurd (omega arith)
term_of_digits (d ∷ ds) some h =
    let is = (and_parts (is_digit_of 8 d) (list_all (is_digit_of 8) ds) h).0 in
    rw (digits_are_no_name d ds is, ne_eqb d 46 (λ e. omega (arith, (digit_between d is).0)), ne_eqb (length (d ∷ ds)) 0 (λ e. omega arith), h) refl

word_term : (text word tail : List ℕ) (term : Term) → word_of text ≡ word → term_of_word 8 word ≡ Some term
    → drop (length word) text ≡ tail
    → word_term_at (place text) ≡ Some (term, place tail)
unfolding word_term_at
word_term text word tail term a b c = rw (a, b, c) refl

plain_term : (text : List ℕ) → BeginsNumber text → term_at (place text) ≡ word_term_at (place text)
unfolding term_at
plain_term text h = rw (h.starts, h.bracket, h.starts, h.arrow) refl

no_sign : (text : List ℕ) → after_blanks text ≡ text → begins_with 43 text ≡ false → begins_with 45 text ≡ false → sign_at (place text) ≡ (None, place text)
unfolding sign_at
no_sign text a b c = rw (a, b, a, c) refl

pub no_items : {X : Type 0} (next : Scan → Option (Option X × Scan)) (n : ℕ) (s : Scan) → next s ≡ Some (None, s) → items_at next n s ≡ Some ([], s)
unfolding items_at
no_items next zero s h = refl
no_items next (suc n) s h = rw h refl

no_term : (text : List ℕ) → EndsExpression text → next_term_at (place text) ≡ Some (None, place text)
unfolding next_term_at
no_term text h = rw (no_sign text h.starts h.plus h.minus) refl

number_read : (text tail : List ℕ) (n : ℕ) → BeginsNumber text → EndsExpression tail
    → word_term_at (place text) ≡ Some (Number n, place tail)
    → expression_at (place text) ≡ Some (number_alone n, place tail)
unfolding expression_at signed_at
number_read text tail n begin end is =
    rw (no_sign text begin.starts begin.plus begin.minus, plain_term text begin, is, no_items next_term_at (length tail) (place tail) (no_term tail end)) refl

-- a number in octal is read as an expression
pub octal_read : (n : ℕ) (tail : List ℕ) → n < 8 ^ 22 → EndsExpression tail → expression_at (place (octal_text n ++ tail)) ≡ Some (number_alone n, place tail)
octal_read n tail small end =
    let ds = octal_text n in
    let all = octal_digits 22 n in
    let value = term_of_digits ds (octal_some 21 n) all ∙ ap (λ m. Some (Number m)) (octal_value 22 n (omega arith) small) in
    number_read (ds ++ tail) tail n (octal_begins n tail) end
    (word_term (ds ++ tail) ds tail (Number n) (word_read ds tail (digits_are_name_characters ds all) end.word) value
    (drop-append_seam ds tail))

pub optional_read : (text text' tail : List ℕ) (n : ℕ) → after_blanks text ≡ text' → begins_expression text' ≡ true
    → expression_at (place text') ≡ Some (number_alone n, place tail)
    → optional_at (place text) ≡ Some (Some (number_alone n), place tail)
unfolding optional_at
optional_read text text' tail n a b c = rw (a, b, c) refl

pub optional_none : (text text' : List ℕ) → after_blanks text ≡ text' → begins_expression text' ≡ false → optional_at (place text) ≡ Some (None, place text')
unfolding optional_at
optional_none text text' a b = rw (a, b) refl

-- ---- the characters of printed lines

-- a character that neither ends a line nor is beyond ASCII
abbrev pub is_printed : ℕ → Bool
is_printed c = nat_lt 31 c && nat_lt c 128

name_character_is_printed : (c : ℕ) → is_name_character c ≡ true → is_printed c ≡ true
name_character_is_printed c h = grind (arith, nat_tests)

pub word_is_printed : (word : List ℕ) → list_all is_name_character word ≡ true → list_all is_printed word ≡ true
word_is_printed [] h = refl
word_is_printed (c ∷ cs) h =
    let p = and_parts (is_name_character c) (list_all is_name_character cs) h in
    rw (name_character_is_printed c p.0, word_is_printed cs p.1) refl

pub octal_is_printed : (n : ℕ) → list_all is_printed (octal_text n) ≡ true
octal_is_printed n = word_is_printed (octal_text n) (digits_are_name_characters (octal_text n) (octal_digits 22 n))
