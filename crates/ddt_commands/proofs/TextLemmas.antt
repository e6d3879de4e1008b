-- Texts that are cut, and names.
use Rattle.std.proofs.Common.{nat_lt, if◌then◌else◌, Some, map, ◌++◌, length-take, refl, take, [], ◌∷◌, sym, ◌-◌, ◌≤◌, ◌&&◌, add-one, ◌≡◌, ◌<◌, ◌+◌, ◌∙◌, ap, ℕ, suc, Bool, true, false, cond, not, List, length, get_or, drop, drop-cons, arith}
use Rattle.std.proofs.Math.Seq.{take-suc}
use Rattle.std.proofs.lemmas.Bool.{false≢true}
use Rattle.std.proofs.lemmas.Bool.Decides.{nat_tests}
use Rattle.std.proofs.lemmas.Grind.{common_steps}
use Rattle.std.proofs.lemmas.List.{get_or-take, map-append}
use Rattle.std.proofs.lemmas.Str.{len_utf8_ascii, length-encode}
use Rattle.std.proofs.lemmas.List.Folds.{list_all_at}
use Rattle.std.proofs.lemmas.List.Sums.{suffix_len_is}
use Rattle.std.specs.Char.{encode_utf8, to_ascii_uppercase}
use Rattle.std.specs.List.{list_all, position_or_len, prefix_len, suffix_len}
use Rattle.std.proofs.lemmas.Slice.Eq.{bytes_eq-Decides}
use Rattle.ddt_commands.specs.Texts.{behind_blanks, first_place, is_blank, trimmed}
use Rattle.ddt_commands.specs.Values.{is_inside}

pub ruleset names = (bytes_eq-Decides)

-- the first place that passes a test is where one does, and none before it
pub found : (p : ℕ → Bool) (text : List ℕ) (i : ℕ) → i < length text → p (get_or text i 0) ≡ true
    → i + position_or_len p (drop i text) ≡ position_or_len p text → i ≡ position_or_len p text
found p text i within passes sum =
    let here : position_or_len p (drop i text) ≡ 0 =
    ap (λ (l : List ℕ). position_or_len p l) (drop-cons text i 0 within)
    ∙ ap (λ (b : Bool). cond (not b) (1 + position_or_len p (drop (suc i) text)) 0) passes in
    omega (arith, here, sum)

-- as many pass a test as stand before the first that does not
pub ended : (p : ℕ → Bool) (text : List ℕ) (i : ℕ) → i < length text → p (get_or text i 0) ≡ false
    → i + prefix_len p (drop i text) ≡ prefix_len p text → i ≡ prefix_len p text
ended p text i within fails sum =
    let here : prefix_len p (drop i text) ≡ 0 =
    ap (λ (l : List ℕ). prefix_len p l) (drop-cons text i 0 within)
    ∙ ap (λ (b : Bool). cond b (1 + prefix_len p (drop (suc i) text)) 0) fails in
    omega (arith, here, sum)

by_head : (p : ℕ → Bool) (c : ℕ) (text : List ℕ) (inside : Bool) → p c ≡ inside → list_all p (take (prefix_len p text) text) ≡ true
    → list_all p (take (cond inside (1 + prefix_len p text) 0) (c ∷ text)) ≡ true
by_head p c text true passes rest =
    let more : 1 + prefix_len p text ≡ suc (prefix_len p text) = omega arith in
    rw more (ap (λ (b : Bool). b && list_all p (take (prefix_len p text) text)) passes ∙ rest)
by_head p c text false fails rest = refl

-- all of the first that pass a test pass it
pub all_pass : (p : ℕ → Bool) (text : List ℕ) → list_all p (take (prefix_len p text) text) ≡ true
all_pass p [] = refl
all_pass p (c ∷ text) = by_head p c text (p c) refl (all_pass p text)

-- all pass, where the search comes to the end
pub everywhere : (p : ℕ → Bool) (text : List ℕ) (i : ℕ) → length text ≤ i → i ≤ length text
    → i + prefix_len p (drop i text) ≡ prefix_len p text → prefix_len p text ≡ length text
everywhere p text i past within sum =
    let here : drop i text ≡ [] = grind (arith, common_steps) in
    let none : prefix_len p (drop i text) ≡ 0 = ap (λ (l : List ℕ). prefix_len p l) here in
    omega (arith, none, sum)

-- ---- names

by_code : (c : ℕ) → is_inside c ≡ true → to_ascii_uppercase c < 128
by_code c inside = grind (arith, nat_tests)

passes : (p : ℕ → Bool) (text : List ℕ) (i : ℕ) (here : Bool) → p (get_or text i 0) ≡ here → i < length text → list_all p text ≡ true
    → p (get_or text i 0) ≡ true
passes p text i true is within all = is
passes p text i false is within all = absurd (false≢true (sym (list_all_at p text i 0 within is) ∙ all))

-- the characters of names are of ASCII
pub upper_is_ascii : (text : List ℕ) (n i : ℕ) → list_all is_inside text ≡ true → i < length (take n text)
    → to_ascii_uppercase (get_or (take n text) i 0) < 128
upper_is_ascii text n i all within =
    let least : i < n = omega (arith, length-take n text) in
    let there : i < length text = omega (arith, length-take n text) in
    let same : get_or (take n text) i 0 ≡ get_or text i 0 = get_or-take n text i 0 least in
    by_code (get_or (take n text) i 0)
    (ap is_inside same ∙ passes is_inside text i (is_inside (get_or text i 0)) refl there all)

-- a character of ASCII takes a byte
pub one_byte : (c : ℕ) → c < 128 → length (encode_utf8 c) ≡ 1
one_byte c h = length-encode c ∙ len_utf8_ascii c h

-- one character more
pub upper_on : (text : List ℕ) (i : ℕ) → i < length text
    → map to_ascii_uppercase (take i text) ++ (to_ascii_uppercase (get_or text i 0) ∷ []) ≡ map to_ascii_uppercase (take (i + 1) text)
upper_on text i within =
    let on : i + 1 ≡ suc i = add-one i in
    rw (on, take-suc text i 0 within, map-append) refl

-- ---- the last that passes a test

by_place : (p : ℕ → Bool) (text : List ℕ) (end k : ℕ) (below : Bool) → nat_lt k end ≡ below
    → ((j : ℕ) → end ≤ j → j < length text → not (p (get_or text j 0)) ≡ true)
    → not (p (get_or text (end - 1) 0)) ≡ true → end - 1 ≤ k → k < length text → not (p (get_or text k 0)) ≡ true
by_place p text end k true is behind here least within =
    let under : k < end = grind (arith, nat_tests, is) in
    let same : k ≡ end - 1 = omega (arith, under, least) in
    ap (λ (n : ℕ). not (p (get_or text n 0))) same ∙ here
by_place p text end k false is behind here least within =
    let above : end ≤ k = grind (arith, nat_tests, is) in
    behind k above within

-- none passes from a place on, nor one place before it
pub none_from : (p : ℕ → Bool) (text : List ℕ) (end k : ℕ) → ((j : ℕ) → end ≤ j → j < length text → not (p (get_or text j 0)) ≡ true)
    → p (get_or text (end - 1) 0) ≡ false → end - 1 ≤ k → k < length text → not (p (get_or text k 0)) ≡ true
none_from p text end k behind fails least within = by_place p text end k (nat_lt k end) refl behind (ap not fails) least within

pub none_behind : (p : ℕ → Bool) (text : List ℕ) (end : ℕ) → end ≤ length text
    → ((j : ℕ) → end ≤ j → j < length text → not (p (get_or text j 0)) ≡ true) → (0 < end → p (get_or text (end - 1) 0) ≡ true)
    → suffix_len (λ c. not (p c)) text ≡ length text - end
none_behind p text end within behind here = suffix_len_is (λ (c : ℕ). not (p c)) text end 0 within behind (λ some. ap not (here some))

-- a test of a place that is so, or not
pub here_of : (test : ℕ → Bool) (i n : ℕ) → i < n → test i ≡ true → first_place test i (n - i) ≡ Some i
here_of test i n within is =
    let k : n - i ≡ suc (n - (i + 1)) = omega arith in
    ap (λ (m : ℕ). first_place test i m) k ∙ ap (λ (b : Bool). if b then Some i else first_place test (i + 1) (n - (i + 1))) is

pub place_on : (test : ℕ → Bool) (i n : ℕ) → i < n → test i ≡ false → first_place test i (n - i) ≡ first_place test (i + 1) (n - (i + 1))
place_on test i n within is =
    let k : n - i ≡ suc (n - (i + 1)) = omega arith in
    ap (λ (m : ℕ). first_place test i m) k ∙ ap (λ (b : Bool). if b then Some i else first_place test (i + 1) (n - (i + 1))) is

-- nothing is left after the last word
pub none_left : (text : List ℕ) (i : ℕ) → length text ≤ i → i + position_or_len is_blank (drop i text) ≡ position_or_len is_blank text
    → behind_blanks text ≡ []
unfolding trimmed
none_left text i past sum =
    let all : length text ≤ position_or_len is_blank text = omega (arith, sum) in
    let none : drop (position_or_len is_blank text + 1) text ≡ [] = grind (arith, common_steps) in
    ap trimmed none
