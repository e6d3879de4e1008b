-- Lemmas on a number that is read with the separator behind it.
use Rattle.std.proofs.Common.{◌≡◌, ◌<◌, ◌≤◌, ◌+◌, ◌-◌, ◌*◌, ◌==◌, ◌&&◌, ℕ, List, [], ◌∷◌, Option, None, Some, length, get_or, drop, arith, sym}
use Rattle.std.proofs.Common.{ap, ◌∙◌, subst, true, false, Bool, refl, nat_le, nat_lt, cond, take, eq-eqb, inl, inr}
use Rattle.std.proofs.lemmas.List.{drop_more, take_rest, drop_all}
use Rattle.std.proofs.lemmas.List.Splits.{slice_split-cons_yes, slice_split-cons_no}
use Rattle.std.proofs.lemmas.Bool.{cases_lt, ne_eqb}
use Rattle.std.proofs.lemmas.Bool.Decides.{nat_tests}
use Rattle.std.specs.List.{list_all, slice_split, onto_first}
use Rattle.script_io.proofs.NumberLemmas.{value_onto-grows}
use Rattle.script_io.specs.Numbers.{is_digit, value_onto, number, parts, front, IsFront}

-- the number that the first of some texts spells behind digits of the value v; no text counts as an empty one
abbrev pub onto_front : ℕ → ℕ → List (List ℕ) → Option ℕ
onto_front most v [] = cond (nat_le v most) (Some v) None
onto_front most v (text ∷ more) = cond (list_all (is_digit 10) text && nat_le (value_onto 10 v text) most) (Some (value_onto 10 v text)) None

abbrev pub others : List (List ℕ) → List (List ℕ)
others [] = []
others (text ∷ more) = more

-- ---- one character more

onto-digit : (most v c : ℕ) (texts : List (List ℕ)) → is_digit 10 c ≡ true → onto_front most v (onto_first c texts) ≡ onto_front most (10 * v + (c - 48)) texts
onto-digit most v c [] digit = ap (λ b. cond ((b && true) && nat_le (10 * v + (c - 48)) most) (Some (10 * v + (c - 48))) None) digit
onto-digit most v c (t ∷ ts) digit =
    ap
    (λ b. cond ((b && list_all (is_digit 10) t) && nat_le (value_onto 10 (10 * v + (c - 48)) t) most)
    (Some (value_onto 10 (10 * v + (c - 48)) t)) None) digit

onto-other : (most v c : ℕ) (texts : List (List ℕ)) → is_digit 10 c ≡ false → onto_front most v (onto_first c texts) ≡ None
onto-other most v c [] other = ap (λ b. cond ((b && true) && nat_le (10 * v + (c - 48)) most) (Some (10 * v + (c - 48))) None) other
onto-other most v c (t ∷ ts) other =
    ap
    (λ b. cond ((b && list_all (is_digit 10) t) && nat_le (value_onto 10 (10 * v + (c - 48)) t) most)
    (Some (value_onto 10 (10 * v + (c - 48)) t)) None) other

test-small : (v most : ℕ) → v ≤ most → nat_le v most ≡ true
test-small v most h = grind (arith, nat_tests)

above : (most v : ℕ) (a : Bool) (x : Option ℕ) → most < v → cond (a && nat_le v most) x None ≡ None
above most v a x h = grind (arith, nat_tests)

onto-large : (most v : ℕ) (texts : List (List ℕ)) → most < v → onto_front most v texts ≡ None
onto-large most v [] large = above most v true _ large
onto-large most v (t ∷ ts) large = above most (value_onto 10 v t) _ _ (let more : v ≤ value_onto 10 v t = value_onto-grows 10 v t (omega arith) in omega arith)

others-first : (c : ℕ) (texts : List (List ℕ)) → others (onto_first c texts) ≡ others texts
others-first c [] = refl
others-first c (t ∷ ts) = refl

-- the parts of what is left of a text at a place
at-other : (separator : ℕ) (text : List ℕ) (i : ℕ) → i < length text → (get_or text i 0 == separator) ≡ false
    → parts separator (drop i text) ≡ onto_first (get_or text i 0) (parts separator (drop (i + 1) text))
unfolding parts
at-other separator text i within differs =
    ap (slice_split (λ b. b == separator)) (drop_more text i 0 within) ∙ slice_split-cons_no (λ b. b == separator) (get_or text i 0) (drop (i + 1) text) differs

at-separator : (separator : ℕ) (text : List ℕ) (i : ℕ) → i < length text → (get_or text i 0 == separator) ≡ true
    → parts separator (drop i text) ≡ [] ∷ parts separator (drop (i + 1) text)
unfolding parts
at-separator separator text i within here =
    ap (slice_split (λ b. b == separator)) (drop_more text i 0 within) ∙ slice_split-cons_yes (λ b. b == separator) (get_or text i 0) (drop (i + 1) text) here

-- ---- what is known where the characters before a place are digits of the value

pub record Follows (most separator : ℕ) (text : List ℕ) (i v : ℕ) : Type 0 where
  pub number : onto_front most v (parts separator (drop i text)) ≡ onto_front most 0 (parts separator text)
  pub behind : others (parts separator (drop i text)) ≡ others (parts separator text)
  pub begins : 0 < i → (get_or text 0 0 == separator) ≡ false
  pub small : v ≤ most

pub follows-start : (most separator : ℕ) (text : List ℕ) → Follows most separator text 0 0
follows-start most separator text = record { number = refl; behind = refl; begins = λ h. absurd (omega arith); small = omega arith }

first-known : (separator : ℕ) (text : List ℕ) (i : ℕ) → (0 < i → (get_or text 0 0 == separator) ≡ false)
    → (get_or text i 0 == separator) ≡ false
    → (get_or text 0 0 == separator) ≡ false
first-known separator text i before here =
    elim (cases_lt 0 i) [
      | inl later ↦ before later
      | inr first ↦ let same : i ≡ 0 = omega arith in subst (λ k. (get_or text k 0 == separator) ≡ false) same here
    ]

digit-tested : (c : ℕ) → 48 ≤ c → c - 48 < 10 → is_digit 10 c ≡ true
digit-tested c least most = grind (arith, nat_tests)

onto-next : (most separator : ℕ) (text : List ℕ) (i v : ℕ) → i < length text → (get_or text i 0 == separator) ≡ false → is_digit 10 (get_or text i 0) ≡ true
    → onto_front most v (parts separator (drop i text)) ≡ onto_front most 0 (parts separator text)
    → onto_front most (10 * v + (get_or text i 0 - 48)) (parts separator (drop (i + 1) text)) ≡ onto_front most 0 (parts separator text)
onto-next most separator text i v within differs digit same =
    sym (onto-digit most v (get_or text i 0) (parts separator (drop (i + 1) text)) digit)
    ∙ sym (ap (onto_front most v) (at-other separator text i within differs)) ∙ same

pub follows-digit : (most separator : ℕ) (text : List ℕ) (i v d : ℕ) → Follows most separator text i v → i < length text
    → (get_or text i 0 == separator) ≡ false
    → 48 ≤ get_or text i 0 → d ≡ get_or text i 0 - 48 → d < 10 → 10 * v + d ≤ most → Follows most separator text (i + 1) (10 * v + d)
follows-digit most separator text i v d f within differs least is digit small =
    let tested = digit-tested (get_or text i 0) least (omega arith) in
    record {
      number = subst (λ n. onto_front most (10 * v + n) (parts separator (drop (i + 1) text)) ≡ onto_front most 0 (parts separator text)) (sym is)
          (onto-next most separator text i v within differs tested f.number);
      behind =
          sym (others-first (get_or text i 0) (parts separator (drop (i + 1) text)))
          ∙ sym (ap others (at-other separator text i within differs)) ∙ f.behind;
      begins = λ h. first-known separator text i f.begins differs;
      small = small;
    }

-- ---- the end of the number

no_number : (a b : Bool) (v : ℕ) → cond b (Some v) None ≡ None → cond (a && b) (Some v) None ≡ None
no_number true b v h = h
no_number false b v h = refl

front-none : (most : ℕ) (texts : List (List ℕ)) → onto_front most 0 texts ≡ None → front (number 10 most) texts ≡ None
unfolding number
front-none most [] h = refl
front-none most (t ∷ ts) h = no_number (nat_lt 0 (length t)) _ _ h

pub not_front-other : (most separator : ℕ) (text : List ℕ) (i v : ℕ) → Follows most separator text i v → i < length text
    → (get_or text i 0 == separator) ≡ false
    → is_digit 10 (get_or text i 0) ≡ false → front (number 10 most) (parts separator text) ≡ None
not_front-other most separator text i v f within differs other =
    front-none most (parts separator text)
    (sym f.number ∙ ap (onto_front most v) (at-other separator text i within differs)
    ∙ onto-other most v (get_or text i 0) (parts separator (drop (i + 1) text)) other)

pub not_front-large : (most separator : ℕ) (text : List ℕ) (i v d : ℕ) → Follows most separator text i v → i < length text
    → (get_or text i 0 == separator) ≡ false
    → 48 ≤ get_or text i 0 → d ≡ get_or text i 0 - 48 → d < 10 → most < 10 * v + d → front (number 10 most) (parts separator text) ≡ None
not_front-large most separator text i v d f within differs least is digit large =
    let tested = digit-tested (get_or text i 0) least (omega arith) in
    front-none most (parts separator text)
    (sym (onto-next most separator text i v within differs tested f.number)
    ∙ onto-large most (10 * v + (get_or text i 0 - 48)) (parts separator (drop (i + 1) text)) (omega arith))

pub not_front-nothing : (most separator : ℕ) (text : List ℕ) → length text ≡ 0 → front (number 10 most) (parts separator text) ≡ None
unfolding number parts
not_front-nothing most separator [] h = refl
not_front-nothing most separator (c ∷ cs) h = absurd (omega arith)

pub not_front-begins : (most separator : ℕ) (text : List ℕ) (i : ℕ) → i ≡ 0 → i < length text → get_or text i 0 ≡ separator
    → front (number 10 most) (parts separator text) ≡ None
unfolding number
not_front-begins most separator text i first within here =
    let at : get_or text 0 0 ≡ separator = subst (λ k. get_or text k 0 ≡ separator) first here in
    let some : 0 < length text = omega arith in
    ap (front (number 10 most)) (at-separator separator text 0 some (eq-eqb _ _ at))

some_length : (c : ℕ) (t : List ℕ) → nat_lt 0 (length (c ∷ t)) ≡ true
some_length c t = grind (arith, nat_tests)

with_length : (a b : Bool) (x : Option ℕ) (n : ℕ) → a ≡ true → cond b x None ≡ Some n → cond (a && b) x None ≡ Some n
with_length true b x n is h = h
with_length false b x n is h = cc

is_front-first : (most n c : ℕ) (texts behind : List (List ℕ)) → onto_front most 0 (onto_first c texts) ≡ Some n
    → others (onto_first c texts) ≡ behind
    → IsFront (number 10 most) n (onto_first c texts) behind
unfolding number
is_front-first most n c [] behind h e = (c ∷ [], ap (λ l. (c ∷ []) ∷ l) e, h)
is_front-first most n c (t ∷ ts) behind h e = (c ∷ t, ap (λ l. (c ∷ t) ∷ l) e, with_length (nat_lt 0 (length (c ∷ t))) _ _ n (some_length c t) h)

is_front : (most separator n : ℕ) (text : List ℕ) (behind : List (List ℕ)) → 0 < length text → (get_or text 0 0 == separator) ≡ false
    → onto_front most 0 (parts separator text) ≡ Some n → others (parts separator text) ≡ behind → IsFront (number 10 most) n (parts separator text) behind
is_front most separator n text behind some differs h e =
    let begins : parts separator text ≡ onto_first (get_or text 0 0) (parts separator (drop 1 text)) = at-other separator text 0 some differs in
    subst (λ ps. IsFront (number 10 most) n ps behind) (sym begins)
    (is_front-first most n (get_or text 0 0) (parts separator (drop 1 text)) behind (ap (onto_front most 0) (sym begins) ∙ h) (ap others (sym begins) ∙ e))

pub is_front-at : (most separator : ℕ) (text : List ℕ) (i v : ℕ) → Follows most separator text i v → 0 < i → i < length text → get_or text i 0 ≡ separator
    → IsFront (number 10 most) v (parts separator text) (parts separator (take (length text - (i + 1)) (drop (i + 1) text)))
is_front-at most separator text i v f later within here =
    let at = at-separator separator text i within (eq-eqb _ _ here) in
    is_front most separator v text _ (omega arith) (f.begins later)
    (sym f.number ∙ ap (onto_front most v) at ∙ ap (λ b. cond b (Some v) None) (test-small v most f.small))
    (sym f.behind ∙ ap others at ∙ ap (parts separator) (sym (take_rest text (i + 1))))

pub is_front-all : (most separator : ℕ) (text : List ℕ) (i v : ℕ) → Follows most separator text i v → length text ≤ i → 0 < length text
    → IsFront (number 10 most) v (parts separator text) []
unfolding parts
is_front-all most separator text i v f end some =
    let nothing : drop i text ≡ [] = drop_all i text end in
    is_front most separator v text [] some (f.begins (omega arith))
    (sym f.number ∙ ap (λ l. onto_front most v (parts separator l)) nothing ∙ ap (λ b. cond b (Some v) None) (test-small v most f.small))
    (sym f.behind ∙ ap (λ l. others (parts separator l)) nothing)

-- ---- a number of one digit

pub is_front-digit : (most separator n : ℕ) (text : List ℕ) (read : Option ℕ) → 2 ≤ length text → get_or text 1 0 ≡ separator
    → (get_or text 0 0 ≡ separator → ⊥)
    → read ≡ number 10 most (get_or text 0 0 ∷ []) → read ≡ Some n
    → IsFront (number 10 most) n (parts separator text) (parts separator (take (length text - 2) (drop 2 text)))
is_front-digit most separator n text read long behind differs is some =
    let first = at-other separator text 0 (omega arith) (ne_eqb _ _ differs) in
    let second = at-separator separator text 1 (omega arith) (eq-eqb _ _ behind) in (
      get_or text 0 0 ∷ [],
      first ∙ ap (onto_first (get_or text 0 0)) second ∙ ap (λ l. (get_or text 0 0 ∷ []) ∷ parts separator l) (sym (take_rest text 2)),
      sym is ∙ some,
    )
