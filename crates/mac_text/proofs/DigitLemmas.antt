-- Words of digits.
use Rattle.std.proofs.Common.{◌≡◌, ℕ, zero, suc, ◌<◌, ◌≤◌, List, [], ◌∷◌, Some, true, false, length, get_or, take, ◌==◌, refl, ap, ◌∙◌, arith}
use Rattle.std.specs.Prelude.{codes}
use Rattle.std.specs.List.{list_all, prefix_len}
use Rattle.std.specs.Str.{bytes_eq}
use Rattle.std.proofs.lemmas.Bool.{and_parts, ne_eqb}
use Rattle.std.proofs.lemmas.Bool.Decides.{nat_tests}
use Rattle.std.proofs.lemmas.List.{length-take}
use Rattle.whole_numbers.specs.Numerals.{digits_value}
use Rattle.mac_text.specs.Characters.{is_digit, is_name_character}
use Rattle.mac_text.specs.Names.{is_name}
use Rattle.mac_text.specs.Numbers.{is_digit_of, number_of}
use Rattle.mac_text.specs.Scan.{word_of}
use Rattle.mac_text.specs.Expressions.{term_of_word}
use Rattle.mac_text.proofs.WordLemmas.{word_length}
use Rattle.mac_text.specs.declared.syntax.Term.TheVariants.{Number}

pub digit_is_digit : (radix c : ℕ) → radix ≤ 10 → is_digit_of radix c ≡ true → is_digit c ≡ true
digit_is_digit radix c r h = grind (arith, nat_tests)

pub digit_names : (c : ℕ) → is_digit c ≡ true → is_name_character c ≡ true
digit_names c h = grind (arith, nat_tests)

digit_is_no_point : (c : ℕ) (cs : List ℕ) → is_digit c ≡ true → bytes_eq (c ∷ cs) (codes ".") ≡ false
digit_is_no_point c cs h = let other : (c == 46) ≡ false = grind (arith, nat_tests) in rw other refl

pub no_name : (c : ℕ) (cs : List ℕ) → is_digit c ≡ true → is_name (c ∷ cs) ≡ false
no_name c [] h = rw h refl
no_name c (d ∷ cs) h = rw h refl

-- a word of digits goes as far as they do
word_ends : (radix i : ℕ) (text : List ℕ) → radix ≤ 10 → i ≤ length text → list_all (is_digit_of radix) (take i text) ≡ true
    → (i < length text → is_name_character (get_or text i 0) ≡ false)
    → prefix_len is_name_character text ≡ i
word_ends radix zero [] r w h e = refl
word_ends radix zero (c ∷ cs) r w h e = rw (e (omega arith)) refl
word_ends radix (suc i) [] r w h e = absurd (omega arith)
word_ends radix (suc i) (c ∷ cs) r w h e =
    let p = and_parts (is_digit_of radix c) (list_all (is_digit_of radix) (take i cs)) h in
    let more = word_ends radix i cs r (omega arith) p.1 (λ lt. e (omega arith)) in
    rw (digit_names c (digit_is_digit radix c r p.0), more) (omega arith)

pub digits_term : (radix : ℕ) (digits : List ℕ) → radix ≤ 10 → 0 < length digits → list_all (is_digit_of radix) digits ≡ true
    → term_of_word radix digits ≡ Some (Number (digits_value radix digits))
unfolding number_of
digits_term radix [] r w h = absurd (omega arith)
digits_term radix (c ∷ cs) r w h =
    let p = and_parts (is_digit_of radix c) (list_all (is_digit_of radix) cs) h in
    let digit = digit_is_digit radix c r p.0 in
    let some = ne_eqb (length (c ∷ cs)) 0 (λ e. omega arith) in
    rw (no_name c cs digit, digit_is_no_point c cs digit, some, h) refl

pub digits_length : (radix i : ℕ) (text : List ℕ) → radix ≤ 10 → i ≤ length text
    → list_all (is_digit_of radix) (take i text) ≡ true → (i < length text → is_name_character (get_or text i 0) ≡ false)
    → length (word_of text) ≡ i
digits_length radix i text r w h e = word_length text ∙ word_ends radix i text r w h e

pub leading_term : (radix i : ℕ) (text : List ℕ) → radix ≤ 10 → 0 < i → i ≤ length text
    → list_all (is_digit_of radix) (take i text) ≡ true → (i < length text → is_name_character (get_or text i 0) ≡ false)
    → term_of_word radix (word_of text) ≡ Some (Number (digits_value radix (take i text)))
leading_term radix i text r some w h e =
    ap (λ n. term_of_word radix (take n text)) (word_ends radix i text r w h e)
    ∙ digits_term radix (take i text) r (omega (arith, length-take i text)) h
