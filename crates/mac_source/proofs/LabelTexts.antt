-- Labels and numbers as they are written: their characters, and that labels of two addresses differ.
use Rattle.std.proofs.Common.{◌≡◌, ℕ, zero, suc, ◌+◌, ◌-◌, ◌*◌, ◌/◌, ◌%◌, ◌^◌, ◌<◌, ◌≤◌, List, [], ◌∷◌}
use Rattle.std.proofs.Common.{Bool, true, false, length, length-append, take, map, refl, ap, ◌∙◌, sym, arith}
use Rattle.std.specs.List.{list_all}
use Rattle.std.proofs.lemmas.Bool.{and_parts, and_from}
use Rattle.std.proofs.lemmas.Bool.Decides.{nat_tests}
use Rattle.std.proofs.lemmas.List.Folds.{list_all-append}
use Rattle.std.proofs.lemmas.List.Sums.{fold-append}
use Rattle.std.proofs.Math.Nat.{pow-suc}
use Rattle.word36.specs.Octal.{octal, octal_within, octal_text, last_digit}
use Rattle.word36.proofs.OctalLemmas.{by_digits, octal_within_last, length_octal, digits_value_octal}
use Rattle.ka_isa.specs.Keys.{sixbit_of, has_code}
use Rattle.ka_isa.proofs.KeyLemmas.{sixbit_tells}
use Rattle.std.specs.Str.Parse.{digits_value as parsed_value}
use Rattle.whole_numbers.specs.Numerals.{digits_value}
use Rattle.mac_text.specs.Characters.{is_digit, is_name_character, upper_case}
use Rattle.mac_text.specs.Names.{is_name, folded, symbol_of}
use Rattle.mac_text.specs.Numbers.{is_digit_of}
use Rattle.mac_source.specs.Sources.{label_text}
use Rattle.mac_text.proofs.NumberTexts.{digits_are_name_characters}

-- ---- numbers

last_is_digit : (n : ℕ) → is_digit_of 8 (last_digit n) ≡ true
last_is_digit n = grind (arith, nat_tests)

last_alone : (n : ℕ) → list_all (is_digit_of 8) (last_digit n ∷ []) ≡ true
last_alone n = rw (last_is_digit n) refl

pub octal_digits : (k n : ℕ) → list_all (is_digit_of 8) (octal_within k n) ≡ true
unfolding octal_within
octal_digits zero n = refl
octal_digits (suc k) n =
    let last = last_alone n in
    by_digits (λ _ ds. list_all (is_digit_of 8) ds ≡ true) k n (λ _. last)
    (λ _. list_all-append (is_digit_of 8) (octal_within k (n / 8)) (last_digit n ∷ [])
    ∙ rw (octal_digits k (n / 8), last) refl)

pub octal_some : (k n : ℕ) → 0 < length (octal_within (suc k) n)
octal_some k n = by_digits (λ _ ds. 0 < length ds) k n (λ _. omega arith) (λ _. omega (arith, length-append (octal_within k (n / 8)) (last_digit n ∷ [])))

octal_value : (k n : ℕ) → 0 < k → n < 8 ^ k → digits_value 8 (octal_within k n) ≡ n
octal_value zero n p h = absurd (omega arith)
octal_value (suc zero) n p h =
    let small : n < 8 = omega arith in
    ap (digits_value 8) (octal_within_last zero n small) ∙ omega arith
octal_value (suc (suc k)) n p h =
    by_digits (λ m ds. digits_value 8 ds ≡ m) (suc k) n (λ q. omega arith) (λ q.
    let below : n / 8 < 8 ^ suc k = omega (arith, pow-suc 8 (suc k)) in
    fold-append (λ m d. m * 8 + (d - 48)) 0 (octal_within (suc k) (n / 8)) (last_digit n ∷ []) ∙ omega (arith, octal_value (suc k) (n / 8) (omega arith) below))

-- the number that its digits give
abbrev pub read_number : ℕ → ℕ
read_number n = digits_value 8 (octal_text n)

pub number_value : (n : ℕ) → n < 2 ^ 18 → read_number n ≡ n
number_value n h = octal_value 22 n (omega arith) (omega (arith, h))

pub size_value : (n : ℕ) → n ≤ 2 ^ 18 → read_number n ≡ n
size_value n h = octal_value 22 n (omega arith) (omega (arith, h))

-- ---- labels

-- what holds of each character that passes a test holds of a text of such characters
pub all_so : (p q : ℕ → Bool) → ((c : ℕ) → p c ≡ true → q c ≡ true) → (cs : List ℕ) → list_all p cs ≡ true → list_all q cs ≡ true
all_so p q each [] h = refl
all_so p q each (c ∷ cs) h =
    let first = and_parts (p c) (list_all p cs) h in
    and_from (q c) (list_all q cs) (each c first.0) (all_so p q each cs first.1)

digit_has_code : (d : ℕ) → is_digit_of 8 d ≡ true → has_code d ≡ true
digit_has_code d h = grind (arith, nat_tests)

digits_have_codes : (ds : List ℕ) → list_all (is_digit_of 8) ds ≡ true → list_all has_code ds ≡ true
digits_have_codes = all_so (is_digit_of 8) has_code digit_has_code

digit_stays : (d : ℕ) → is_digit_of 8 d ≡ true → upper_case d ≡ d
digit_stays d h = grind (arith, nat_tests)

digits_stay : (ds : List ℕ) → list_all (is_digit_of 8) ds ≡ true → map upper_case ds ≡ ds
digits_stay [] h = refl
digits_stay (d ∷ ds) h =
    let p = and_parts (is_digit_of 8 d) (list_all (is_digit_of 8) ds) h in
    rw (digit_stays d p.0, digits_stay ds p.1) refl

pub fixed_digits : (k n : ℕ) → list_all (is_digit_of 8) (octal k n) ≡ true
unfolding octal
fixed_digits zero n = refl
fixed_digits (suc k) n =
    let last = last_alone n in
    list_all-append (is_digit_of 8) (octal k (n / 8)) (last_digit n ∷ []) ∙ rw (fixed_digits k (n / 8), last) refl

-- the first letter
abbrev letter : ℕ → ℕ
letter p = 76 + p / 2 ^ 15 % 8

letter_is : (c : ℕ) → 76 ≤ c → c < 84 → (is_name_character c ≡ true) × (is_digit c ≡ false) × (has_code c ≡ true) × (upper_case c ≡ c)
letter_is c h k = (grind (arith, nat_tests), grind (arith, nat_tests), grind (arith, nat_tests), grind (arith, nat_tests))

letter_range : (p : ℕ) → (76 ≤ letter p) × (letter p < 84)
letter_range p = (omega arith, omega arith)

letter_at : (p : ℕ) → (is_name_character (letter p) ≡ true) × (is_digit (letter p) ≡ false) × (has_code (letter p) ≡ true) × (upper_case (letter p) ≡ letter p)
letter_at p = letter_is (letter p) (letter_range p).0 (letter_range p).1

pub label_characters : (p : ℕ) → list_all is_name_character (label_text p) ≡ true
label_characters p = rw ((letter_at p).0, digits_are_name_characters (octal 5 (p % 2 ^ 15)) (fixed_digits 5 (p % 2 ^ 15))) refl

pub label_names : (p : ℕ) → is_name (label_text p) ≡ true
unfolding octal
label_names p = rw (letter_at p).1 refl

label_codes : (p : ℕ) → list_all has_code (label_text p) ≡ true
label_codes p = rw ((letter_at p).2, digits_have_codes (octal 5 (p % 2 ^ 15)) (fixed_digits 5 (p % 2 ^ 15))) refl

label_length : (p : ℕ) → length (label_text p) ≡ 6
label_length p = omega (arith, length_octal 5 (p % 2 ^ 15))

five_taken : (n : ℕ) → take 5 (octal 5 n) ≡ octal 5 n
unfolding octal
five_taken n = refl

label_folded : (p : ℕ) → folded (label_text p) ≡ label_text p
label_folded p =
    ap (λ ds. upper_case (letter p) ∷ map upper_case ds) (five_taken (p % 2 ^ 15))
    ∙ ap (λ c. c ∷ map upper_case (octal 5 (p % 2 ^ 15))) (letter_at p).3
    ∙ ap (λ ds. letter p ∷ ds) (digits_stay (octal 5 (p % 2 ^ 15)) (fixed_digits 5 (p % 2 ^ 15)))

heads : (a b : ℕ) (xs ys : List ℕ) → (a ∷ xs) ≡ (b ∷ ys) → (a ≡ b) × (xs ≡ ys)
heads a b xs ys h = (cc, cc)

-- labels with the same symbol have the same address
pub label_tells : (p q : ℕ) → p < 2 ^ 18 → q < 2 ^ 18 → symbol_of (label_text p) ≡ symbol_of (label_text q) → p ≡ q
unfolding symbol_of
label_tells p q h k same =
    let keys : sixbit_of (label_text p) ≡ sixbit_of (label_text q) =
    sym (ap sixbit_of (label_folded p)) ∙ (same ∙ ap sixbit_of (label_folded q)) in
    let texts =
    sixbit_tells (label_text p) (label_text q) (omega (arith, label_length p)) (omega (arith, label_length q))
    (label_codes p) (label_codes q) keys in
    let parts = heads (letter p) (letter q) (octal 5 (p % 2 ^ 15)) (octal 5 (q % 2 ^ 15)) texts in
    let five : 8 ^ 5 ≡ 2 ^ 15 = refl in
    let low : p % 2 ^ 15 < 8 ^ 5 = omega arith in
    let low' : q % 2 ^ 15 < 8 ^ 5 = omega arith in
    let rest : p % 2 ^ 15 ≡ q % 2 ^ 15 =
    sym (digits_value_octal 5 (p % 2 ^ 15) low) ∙ (ap (parsed_value 8) parts.1 ∙ digits_value_octal 5 (q % 2 ^ 15) low') in
    omega (arith, parts.0, rest, h, k)
