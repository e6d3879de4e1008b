-- The words of a line, read back.
use Rattle.std.proofs.Common.{◌≡◌, ◌==◌, ◌<◌, ◌≤◌, ◌+◌, ◌-◌, ◌*◌, ◌^◌, ◌&&◌, ◌++◌, ◌∙◌, ℕ, Bool, true, false, List, [], ◌∷◌, refl, ap, arith, length, decimal, cond, take, drop, Some, nat_lt, nat_le, not}
use Rattle.std.proofs.lemmas.Bool.{lt-ltb, le-leb, ltb-true, leb-true, ne_eqb, and_parts, false_from_ne_true, false≢true}
use Rattle.std.proofs.lemmas.Fmt.{decimal_nonempty, digits_decimal, digits_value-decimal}
use Rattle.std.proofs.lemmas.List.Splits.{slice_split_at, slice_split_none}
use Rattle.std.proofs.lemmas.List.Sums.{AllPass-from_list_all}
use Rattle.std.proofs.lemmas.Str.Parse.{IsDigitsTest, FoldsDigits, IsNumeralModel, numerals_by_fold}
use Rattle.std.specs.Cmp.Derive.{both_true}
use Rattle.std.specs.Prelude.{suc}
use Rattle.std.specs.List.{All, after_first, before_first, list_all, position_or_len}
use Rattle.run_commands.specs.Commands.{is_space}
use Rattle.run_commands.specs.Names.{is_name_character}
use Rattle.script_io.specs.Numbers.{is_digit, value_onto, number, parts}

-- ---- decimal numbers

test : IsDigitsTest (λ ds. list_all (is_digit 10) ds ≡ true)
test = record {
  empty = refl;
  parts = λ c cs e.
      let k = and_parts (is_digit 10 c) (list_all (is_digit 10) cs) e in
      let m = and_parts (nat_le 48 c) (nat_lt (c - 48) 10) k.0 in
      let low = leb-true 48 c m.0 in
      let high = ltb-true (c - 48) 10 m.1 in
      ((low, omega (arith, low, high)), k.1);
  more = λ c cs k e. both_true (both_true (le-leb 48 c k.0) (lt-ltb (c - 48) 10 (omega (arith, k.0, k.1)))) e;
}

folds : FoldsDigits (value_onto 10)
folds = record {
  empty = λ n. refl;
  more = λ n c cs k. ap (λ m. value_onto 10 m cs) (let e : 10 * n + (c - 48) ≡ n * 10 + (c - 48) = omega arith in e);
}

own : IsNumeralModel (λ ds. list_all (is_digit 10) ds ≡ true) (value_onto 10 0)
own = numerals_by_fold (λ ds. list_all (is_digit 10) ds ≡ true) test (value_onto 10) folds

-- a number in decimal spells that number
pub number_back : (most n : ℕ) → n ≤ most → n < 2 ^ 64 → number 10 most (decimal n) ≡ Some n
unfolding number
number_back most n within small =
    rw (digits_value-decimal own n small, lt-ltb 0 (length (decimal n)) (decimal_nonempty n small), digits_decimal own n small, le-leb n most within) refl

pub one_back : number 10 1000000 (49 ∷ []) ≡ Some 1
unfolding number
one_back = refl

-- ---- words

-- no blank is among these characters
abbrev pub is_word : List ℕ → Bool
is_word text = list_all (λ c. not (c == 32)) text

not_back : (b : Bool) → not b ≡ true → b ≡ false
not_back false e = refl
not_back true e = absurd (false≢true e)

spaceless : (text : List ℕ) → is_word text ≡ true → All (λ c. (c == 32) ≡ false) text
spaceless text h k d within = not_back _ (AllPass-from_list_all (λ c. not (c == 32)) text h k d within)

digits_word : (ds : List ℕ) → list_all (is_digit 10) ds ≡ true → is_word ds ≡ true
digits_word [] e = refl
digits_word (c ∷ cs) e =
    let k = test.parts c cs e in
    both_true (ap not (ne_eqb c 32 (λ s. omega (arith, k.0.0, s)))) (digits_word cs k.1)

pub decimal_word : (n : ℕ) → n < 2 ^ 64 → is_word (decimal n) ≡ true
decimal_word n small = digits_word (decimal n) (digits_decimal own n small)

pub one_word : (name : List ℕ) → is_word name ≡ true → parts 32 name ≡ name ∷ []
unfolding parts
one_word name h = slice_split_none (λ b. b == 32) name (spaceless name h)

pub two_words : (name second : List ℕ) → is_word name ≡ true → is_word second ≡ true → parts 32 (name ++ 32 ∷ second) ≡ name ∷ second ∷ []
unfolding parts
two_words name second h k =
    slice_split_at (λ b. b == 32) name 32 second (spaceless name h) refl
    ∙ ap (λ r. name ∷ r) (slice_split_none (λ b. b == 32) second (spaceless second k))

pub three_words : (name second third : List ℕ) → is_word name ≡ true → is_word second ≡ true → is_word third ≡ true
    → parts 32 (name ++ 32 ∷ (second ++ 32 ∷ third)) ≡ name ∷ second ∷ third ∷ []
unfolding parts
three_words name second third h k l =
    slice_split_at (λ b. b == 32) name 32 (second ++ 32 ∷ third) (spaceless name h) refl
    ∙ ap (λ r. name ∷ r) (slice_split_at (λ b. b == 32) second 32 third (spaceless second k) refl
    ∙ ap (λ r. second ∷ r) (slice_split_none (λ b. b == 32) third (spaceless third l)))

-- what stands before the first space, and behind it
first-space : (word rest : List ℕ) → is_word word ≡ true → position_or_len is_space (word ++ 32 ∷ rest) ≡ length word
first-space [] rest h = refl
first-space (c ∷ cs) rest h =
    let k = and_parts (not (c == 32)) (is_word cs) h in
    ap (λ b. cond b (1 + position_or_len is_space (cs ++ 32 ∷ rest)) 0) k.0 ∙ ap (λ n. 1 + n) (first-space cs rest k.1)
    ∙ (let e : 1 + length cs ≡ length (c ∷ cs) = omega arith in e)

take-word : (word rest : List ℕ) → take (length word) (word ++ rest) ≡ word
take-word [] rest = refl
take-word (c ∷ cs) rest = ap (λ l. c ∷ l) (take-word cs rest)

drop-word : (word rest : List ℕ) → drop (length word + 1) (word ++ 32 ∷ rest) ≡ rest
drop-word [] rest = refl
drop-word (c ∷ cs) rest =
    ap (λ n. drop n (c ∷ (cs ++ 32 ∷ rest))) (let e : length (c ∷ cs) + 1 ≡ suc (length cs + 1) = omega arith in e) ∙ drop-word cs rest

pub front_of : (word rest : List ℕ) → is_word word ≡ true → before_first is_space (word ++ 32 ∷ rest) ≡ word
front_of word rest h = ap (λ n. take n (word ++ 32 ∷ rest)) (first-space word rest h) ∙ take-word word (32 ∷ rest)

pub rest_of : (word rest : List ℕ) → is_word word ≡ true → after_first is_space (word ++ 32 ∷ rest) ≡ rest
rest_of word rest h = ap (λ n. drop (n + 1) (word ++ 32 ∷ rest)) (first-space word rest h) ∙ drop-word word rest

pub all_digits : (n : ℕ) → n < 2 ^ 64 → list_all (is_digit 10) (decimal n) ≡ true
all_digits n small = digits_decimal own n small

digit_name : (c : ℕ) → 48 ≤ c → c - 48 < 10 → is_name_character c ≡ true
digit_name c low high =
    let top : c ≤ 57 = omega (arith, low, high) in
    let small : nat_le 65 c ≡ false = false_from_ne_true (nat_le 65 c) (λ e. let k = leb-true 65 c e in omega (arith, k, top)) in
    let no : nat_le 97 c ≡ false = false_from_ne_true (nat_le 97 c) (λ e. let k = leb-true 97 c e in omega (arith, k, top)) in
    rw (small, no, le-leb 48 c low, le-leb c 57 top) refl

pub name_digits : (ds : List ℕ) → list_all (is_digit 10) ds ≡ true → list_all is_name_character ds ≡ true
name_digits [] e = refl
name_digits (c ∷ cs) e =
    let k = test.parts c cs e in
    both_true (digit_name c k.0.0 (let less = k.0.1 in omega (arith, less))) (name_digits cs k.1)
