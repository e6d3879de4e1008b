-- Numbers and words in octal, as the definitions of what a source means read them.
use Rattle.std.proofs.Common.{◌≡◌, ℕ, ℤ, zero, suc, ◌<◌, ◌≤◌, List, [], ◌∷◌, ◌++◌, Some, None, Ok}
use Rattle.std.proofs.Common.{true, false, length, take, drop, refl, ap, ◌∙◌, arith}
use Rattle.std.specs.Prelude.{pos}
use Rattle.std.specs.List.{list_all, prefix_len}
use Rattle.std.proofs.lemmas.Bool.{and_parts, ne_eqb}
use Rattle.std.proofs.lemmas.Bool.Decides.{nat_tests}
use Rattle.std.proofs.Math.Seq.{take-append_seam, drop-append_seam}
use Rattle.mac_text.specs.Characters.{is_blank, is_digit, is_name_character}
use Rattle.whole_numbers.specs.Numerals.{digits_value}
use Rattle.mac_text.specs.Numbers.{is_digit_of, number_of}
use Rattle.mac_text.specs.Scan.{after_blanks, begins_with}
use Rattle.macro_expressions.specs.declared.kinds.Kind.TheVariants as kinds
use Rattle.macro_expressions.specs.declared.kinds.SignKind.TheVariants as signs
use Rattle.macro_expressions.specs.Reading.{Reader, begins_name, begins_name_character, digits_of}
use Rattle.macro_expressions.specs.Values.{Scope, digits_at, plain_at, begins_bits, bits_behind, kind_of, term_at, sign_of, unary_at}
use Rattle.meaning_laws.specs.Written.{front}
use Rattle.macro_expressions.specs.Values.{infix_of, more_at, level_at, expression_at, begins_expression, optional_at}

-- ---- digits

pub digit_between : (d : ℕ) → is_digit_of 8 d ≡ true → (48 ≤ d) × (d < 56)
digit_between d h = grind (arith, nat_tests)

pub digit_is_name_character : (d : ℕ) → is_digit_of 8 d ≡ true → is_name_character d ≡ true
digit_is_name_character d h = grind (arith, nat_tests)

pub digit_is_no_blank : (d : ℕ) → is_digit_of 8 d ≡ true → is_blank d ≡ false
digit_is_no_blank d h = grind (arith, nat_tests)

pub digit_is_digit : (d : ℕ) → is_digit_of 8 d ≡ true → is_digit d ≡ true
digit_is_digit d h = grind (arith, nat_tests)

digits_length : (ds tail : List ℕ) → list_all (is_digit_of 8) ds ≡ true → digits_of tail ≡ [] → prefix_len is_digit tail ≡ 0
    → prefix_len is_digit (ds ++ tail) ≡ length ds
digits_length [] tail h e z = z
digits_length (d ∷ ds) tail h e z =
    let p = and_parts (is_digit_of 8 d) (list_all (is_digit_of 8) ds) h in
    rw (digit_is_digit d p.0) (omega (arith, digits_length ds tail p.1 e z))

-- ---- what is before and after a number

-- how a text begins that is read as a number
pub record BeginsNumber (text : List ℕ) : Type 0 where
  pub starts : after_blanks text ≡ text
  pub sign : sign_of text ≡ signs.Unsigned
  pub kind : kind_of text ≡ kinds.Digits
  pub expression : begins_expression text ≡ true
  pub name : begins_name text ≡ false
  pub at_sign : begins_with 64 text ≡ false
  pub mark : begins_with 253 text ≡ false

no_name : (d : ℕ) (ds : List ℕ) → is_digit d ≡ true → is_name_character d ≡ true → begins_name (d ∷ ds) ≡ false
no_name d [] h n = rw (n, h) refl
no_name d (e ∷ es) h n = rw (n, h) refl

pub begins : (d : ℕ) (ds : List ℕ) → is_digit_of 8 d ≡ true → BeginsNumber (d ∷ ds)
begins d ds is =
    let within = digit_between d is in
    let digit = digit_is_digit d is in
    let character = digit_is_name_character d is in
    let plus = ne_eqb d 43 (λ e. omega (arith, within.0)) in
    let minus = ne_eqb d 45 (λ e. omega (arith, within.0)) in
    let arrow = ne_eqb d 94 (λ e. omega (arith, within.1)) in
    record {
      starts = rw (digit_is_no_blank d is) refl;
      sign = rw (plus, minus, arrow) refl;
      kind = rw (no_name d ds digit character, digit) refl;
      expression =
          rw (
            plus,
            minus,
            arrow,
            ne_eqb d 60 (λ e. omega (arith, within.1)),
            ne_eqb d 34 (λ e. omega (arith, within.0)),
            ne_eqb d 39 (λ e. omega (arith, within.0)),
            ne_eqb d 91 (λ e. omega (arith, within.1)),
            character,
          )
          refl;
      name = no_name d ds digit character;
      at_sign = ne_eqb d 64 (λ e. omega (arith, within.1));
      mark = ne_eqb d 253 (λ e. omega (arith, within.1));
    }

-- what may follow a number
pub record EndsNumber (text : List ℕ) : Type 0 where
  pub starts : after_blanks text ≡ text
  pub digits : prefix_len is_digit text ≡ 0
  pub point : begins_with 46 text ≡ false
  pub bits : begins_bits text ≡ false
  pub name : begins_name_character text ≡ false
  pub operator : infix_of text ≡ None

line_bits : (cs : List ℕ) → begins_bits (10 ∷ cs) ≡ false
line_bits [] = refl
line_bits (d ∷ cs) = refl

comma_bits : (cs : List ℕ) → begins_bits (44 ∷ cs) ≡ false
comma_bits [] = refl
comma_bits (d ∷ cs) = refl

pub line_ends : (cs : List ℕ) → EndsNumber (10 ∷ cs)
line_ends cs = record { starts = refl; digits = refl; point = refl; bits = line_bits cs; name = refl; operator = refl }

pub comma_ends : (cs : List ℕ) → EndsNumber (44 ∷ cs)
comma_ends cs = record { starts = refl; digits = refl; point = refl; bits = comma_bits cs; name = refl; operator = refl }

-- ---- numbers

number_of_digits : (d : ℕ) (ds : List ℕ) → list_all (is_digit_of 8) (d ∷ ds) ≡ true → number_of 8 (d ∷ ds) ≡ Some (digits_value 8 (d ∷ ds))
unfolding number_of
number_of_digits d ds h = rw (ne_eqb (length (d ∷ ds)) 0 (λ e. omega arith), h) refl

plain_read : (text ds tail : List ℕ) (n : ℕ) → digits_of text ≡ ds → drop (length ds) text ≡ tail → begins_with 46 tail ≡ false
    → number_of 8 ds ≡ Some n → plain_at (front text) ≡ Ok (pos n, front tail)
unfolding plain_at digits_at
plain_read text ds tail n a b c e = rw (a, b, c, a, e, b) refl

no_bits : (scope : Scope) (z : ℤ) (tail : List ℕ) → begins_bits tail ≡ false → begins_name_character tail ≡ false
    → bits_behind scope z (front tail) ≡ Ok (z, front tail)
unfolding bits_behind
no_bits scope z tail a b = rw (a, b) refl

term_read : (scope : Scope) (text tail : List ℕ) (n : ℕ) → kind_of text ≡ kinds.Digits → plain_at (front text) ≡ Ok (pos n, front tail)
    → bits_behind scope (pos n) (front tail) ≡ Ok (pos n, front tail)
    → term_at scope (front text) ≡ Ok (pos n, front tail)
unfolding term_at
term_read scope text tail n a b c = rw (a, b, c) refl

unary_read : (scope : Scope) (text tail : List ℕ) (n k : ℕ) → after_blanks text ≡ text → sign_of text ≡ signs.Unsigned
    → term_at scope (front text) ≡ Ok (pos n, front tail)
    → unary_at scope (suc k) (front text) ≡ Ok (pos n, front tail)
unfolding unary_at
unary_read scope text tail n k a b c = rw (a, b, c) refl

no_more : (operand : Reader ℤ) (level n : ℕ) (z : ℤ) (tail : List ℕ) → after_blanks tail ≡ tail → infix_of tail ≡ None
    → more_at operand level n z (front tail) ≡ Ok (z, front tail)
unfolding more_at
no_more operand level zero z tail a b = refl
no_more operand level (suc n) z tail a b = rw (a, b) refl

level_read : (operand : Reader ℤ) (level : ℕ) (text tail : List ℕ) (z : ℤ) → EndsNumber tail → operand (front text) ≡ Ok (z, front tail)
    → level_at level operand (front text) ≡ Ok (z, front tail)
unfolding level_at
level_read operand level text tail z end is = rw (is, no_more operand level (length tail) z tail end.starts end.operator) refl

expression_read : (scope : Scope) (text tail : List ℕ) (n : ℕ) → BeginsNumber text → EndsNumber tail
    → plain_at (front text) ≡ Ok (pos n, front tail)
    → expression_at scope (front text) ≡ Ok (pos n, front tail)
unfolding expression_at
expression_read scope text tail n begin end is =
    let term = term_read scope text tail n begin.kind is (no_bits scope (pos n) tail end.bits end.name) in
    let unary = unary_read scope text tail n 99 begin.starts begin.sign term in
    let three = level_read (unary_at scope 100) 3 text tail (pos n) end unary in
    let two = level_read (level_at 3 (unary_at scope 100)) 2 text tail (pos n) end three in
    let one = level_read (level_at 2 (level_at 3 (unary_at scope 100))) 1 text tail (pos n) end two in
    level_read (level_at 1 (level_at 2 (level_at 3 (unary_at scope 100)))) 0 text tail (pos n) end one

optional_read : (scope : Scope) (text text' tail : List ℕ) (n : ℕ) → after_blanks text ≡ text' → begins_expression text' ≡ true
    → expression_at scope (front text') ≡ Ok (pos n, front tail)
    → optional_at scope (front text) ≡ Ok (Some (pos n), front tail)
unfolding optional_at
optional_read scope text text' tail n a b c = rw (a, b, a, c) refl

-- digits in octal are read as their number, by any meaning of names, after a blank too
pub digits_read : (scope : Scope) (before : List ℕ) (d : ℕ) (ds tail : List ℕ) → list_all (is_digit_of 8) (d ∷ ds) ≡ true → EndsNumber tail
    → after_blanks before ≡ d ∷ (ds ++ tail)
    → optional_at scope (front before) ≡ Ok (Some (pos (digits_value 8 (d ∷ ds))), front tail)
digits_read scope before d ds tail h end a =
    let is = (and_parts (is_digit_of 8 d) (list_all (is_digit_of 8) ds) h).0 in
    let begin = begins d (ds ++ tail) is in
    let size = digits_length (d ∷ ds) tail h (ap (λ n. take n tail) end.digits) end.digits in
    let taken = ap (λ n. take n (d ∷ (ds ++ tail))) size ∙ take-append_seam (d ∷ ds) tail in
    let value = number_of_digits d ds h in
    let plain = plain_read (d ∷ (ds ++ tail)) (d ∷ ds) tail (digits_value 8 (d ∷ ds)) taken (drop-append_seam (d ∷ ds) tail) end.point value in
    optional_read scope before (d ∷ (ds ++ tail)) tail (digits_value 8 (d ∷ ds)) a begin.expression
    (expression_read scope (d ∷ (ds ++ tail)) tail (digits_value 8 (d ∷ ds)) begin end plain)
