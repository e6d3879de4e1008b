-- A search by key in the table of names finds each operation by its name, and nothing by another text.
use Rattle.std.proofs.Common.{◌≡◌, ◌≢◌, ◌==◌, ℕ, zero, suc, ◌<◌, ◌≤◌, MatchResult, List, [], ◌∷◌, length, map, get_or, Bor, true}
use Rattle.std.proofs.Common.{false, Option, Some, None, Err, refl, sym, ap, ◌∙◌, inl, inr, nat_cmp, arith}
use Rattle.std.specs.Str.{bytes_eq}
use Rattle.std.specs.List.{list_any}
use Rattle.std.specs.List.Sorted.{IsBinarySearchResult}
use Rattle.std.specs.declared.result.Result.{Result}
use Rattle.std.proofs.lemmas.Bool.{and_parts, eqb-true, ltb-true, false≢true, cases_lt, both_ways, false_from_ne_true}
use Rattle.std.proofs.lemmas.Slice.Eq.{bytes_eq-Decides}
use Rattle.std.proofs.lemmas.List.{get_or-map, length-map}
use Rattle.std.proofs.lemmas.List.Sorted.{searched}
use Rattle.ka_isa.specs.Keys.{sixbit_of}
use Rattle.ka_isa.specs.Operations.{Name, Operation, operations, code_in}
use Rattle.ka_isa.specs.Tables.{is_code, have_codes, have_keys, are_rising, have_names, are_by_name}

pub same : (xs ys : List ℕ) → bytes_eq xs ys ≡ true → xs ≡ ys
same xs ys h = (bytes_eq-Decides xs ys).0 h

pub differ : (xs ys : List ℕ) → bytes_eq xs ys ≡ false → xs ≢ ys
differ xs ys h e = both_ways _ h ((bytes_eq-Decides xs ys).1 e)

-- ---- a name that stands in the table

pub code_beside : (os : List Operation) (names : List Name) (codes : List ℕ) (position : ℕ) → have_codes os names codes ≡ true
    → position < length names
    → (position < length codes) × (Some (get_or codes position 0) ≡ code_in os (get_or names position []))
code_beside os [] codes position h p = absurd (omega arith)
code_beside os (n ∷ ns) [] position h p = absurd (false≢true h)
code_beside os (n ∷ ns) (c ∷ cs) zero h p =
    let parts = and_parts (is_code (code_in os n) c) (have_codes os ns cs) h in
    (omega arith, known (code_in os n) c parts.0)
  where
    known : (o : Option ℕ) (code : ℕ) → is_code o code ≡ true → Some code ≡ o
    known None code h = absurd (false≢true h)
    known (Some k) code h = ap Some (sym (eqb-true k code h))
code_beside os (n ∷ ns) (c ∷ cs) (suc position) h p =
    let parts = and_parts (is_code (code_in os n) c) (have_codes os ns cs) h in
    let rest = code_beside os ns cs position parts.1 (omega arith) in
    (omega (arith, rest.0), rest.1)

abbrev names_of : List (Bor (List ℕ)) → List Name
names_of table = map (λ x. x.now) table

pub code_found : (table : List (Bor (List ℕ))) (keys codes name : List ℕ) (position : ℕ) (d : Bor (List ℕ))
    → are_by_name (names_of table) keys codes ≡ true → position < length table → (get_or table position d).now ≡ name
    → (position < length codes) × (Some (get_or codes position 0) ≡ code_in operations name)
unfolding are_by_name
code_found table keys codes name position d h p here =
    let parts = and_parts _ _ h in
    let right = code_beside operations (names_of table) codes position (and_parts _ _ parts.0).0 (omega (arith, length-map table (λ x. x.now))) in
    let read = get_or-map (λ x. x.now) table position d [] p ∙ here in
    (right.0, right.1 ∙ ap (code_in operations) read)

-- ---- keys

pub key_there : (names : List Name) (keys : List ℕ) (k : ℕ) → have_keys names keys ≡ true → k < length names
    → (k < length keys) × (get_or keys k 0 ≡ sixbit_of (get_or names k []))
key_there [] keys k h p = absurd (omega arith)
key_there (n ∷ ns) [] k h p = absurd (false≢true h)
key_there (n ∷ ns) (x ∷ xs) zero h p = (omega arith, sym (eqb-true (sixbit_of n) x (and_parts _ _ h).0))
key_there (n ∷ ns) (x ∷ xs) (suc k) h p =
    let rest = key_there ns xs k (and_parts _ _ h).1 (omega arith) in
    (omega (arith, rest.0), rest.1)

pub as_many : (names : List Name) (keys : List ℕ) → have_keys names keys ≡ true → length names ≡ length keys
as_many [] [] h = refl
as_many [] (x ∷ xs) h = absurd (false≢true h)
as_many (n ∷ ns) [] h = absurd (false≢true h)
as_many (n ∷ ns) (x ∷ xs) h = ap suc (as_many ns xs (and_parts _ _ h).1)

rest_rises : (x : ℕ) (xs : List ℕ) → are_rising (x ∷ xs) ≡ true → are_rising xs ≡ true
rest_rises x [] h = refl
rest_rises x (y ∷ ys) h = (and_parts _ _ h).1

above_first : (x : ℕ) (xs : List ℕ) (k : ℕ) → are_rising (x ∷ xs) ≡ true → k < length xs → x < get_or xs k 0
above_first x [] k h p = absurd (omega arith)
above_first x (y ∷ ys) zero h p = ltb-true x y (and_parts _ _ h).0
above_first x (y ∷ ys) (suc k) h p =
    let first = ltb-true x y (and_parts _ _ h).0 in
    let more = above_first y ys k (and_parts _ _ h).1 (omega arith) in
    omega (arith, first, more)

rising : (xs : List ℕ) (i j : ℕ) → are_rising xs ≡ true → i < j → j < length xs → get_or xs i 0 < get_or xs j 0
rising [] i j h lt p = absurd (omega arith)
rising (x ∷ xs) i zero h lt p = absurd (omega arith)
rising (x ∷ xs) zero (suc j) h lt p = above_first x xs j h (omega arith)
rising (x ∷ xs) (suc i) (suc j) h lt p = rising xs i j (rest_rises x xs h) (omega arith) (omega arith)

not_falling : (xs : List ℕ) → are_rising xs ≡ true → (i j : ℕ) → i ≤ j → j < length xs → get_or xs i 0 ≤ get_or xs j 0
not_falling xs h i j le p = elim (cases_lt i j) [
  | inl lt ↦ (let r = rising xs i j h lt p in omega (arith, r))
  | inr ge ↦ (let e : i ≡ j = omega arith in let same_key = ap (λ n. get_or xs n 0) e in omega (arith, same_key))
]

one_position : (xs : List ℕ) (i j : ℕ) → are_rising xs ≡ true → i < length xs → j < length xs → get_or xs i 0 ≡ get_or xs j 0 → i ≡ j
one_position xs i j h p q e = elim (cases_lt i j) [
  | inl lt ↦ (let r = rising xs i j h lt q in absurd (omega (arith, r, e)))
  | inr ge ↦ elim (cases_lt j i) [
    | inl lt ↦ (let r = rising xs j i h lt p in absurd (omega (arith, r, e)))
    | inr le ↦ omega arith
  ]
]

keys_of : (table : List (Bor (List ℕ))) (keys codes : List ℕ) → are_by_name (names_of table) keys codes ≡ true
    → (have_keys (names_of table) keys ≡ true) × (are_rising keys ≡ true)
unfolding are_by_name
keys_of table keys codes h = and_parts _ _ (and_parts _ _ (and_parts _ _ h).0).1

pub as_long : (table : List (Bor (List ℕ))) (keys codes : List ℕ) → are_by_name (names_of table) keys codes ≡ true → length table ≡ length keys
as_long table keys codes h = sym (length-map table (λ x. x.now)) ∙ as_many (names_of table) keys (keys_of table keys codes h).0

key_of_name : (table : List (Bor (List ℕ))) (keys codes : List ℕ) (k : ℕ) (d : Bor (List ℕ))
    → are_by_name (names_of table) keys codes ≡ true → k < length table
    → get_or keys k 0 ≡ sixbit_of (get_or table k d).now
key_of_name table keys codes k d h p =
    (key_there (names_of table) keys k (keys_of table keys codes h).0 (omega (arith, length-map table (λ x. x.now)))).1
    ∙ ap sixbit_of (get_or-map (λ x. x.now) table k d [] p)

pub key_found : (table : List (Bor (List ℕ))) (keys codes : List ℕ) (x : ℕ) (r : Result ℕ ℕ)
    → are_by_name (names_of table) keys codes ≡ true → IsBinarySearchResult (λ y. nat_cmp y x) keys r
    → MatchResult r (λ i. (i < length keys) × (get_or keys i 0 ≡ x))
    (λ i. (i ≤ length keys) × ((k : ℕ) → k < i → get_or keys k 0 < x) × ((k : ℕ) → i ≤ k → k < length keys → x < get_or keys k 0))
key_found table keys codes x r h s = searched keys x r s (not_falling keys (keys_of table keys codes h).1)

-- ---- a name that does not stand in it

none_there : (table : List (Bor (List ℕ))) (name : List ℕ)
    → ((k : ℕ) (d : Bor (List ℕ)) → k < length table → (get_or table k d).now ≢ name)
    → list_any (bytes_eq name) (map (λ x. x.now) table) ≡ false
none_there [] name h = refl
none_there (x ∷ xs) name h =
    let first = false_from_ne_true (bytes_eq name x.now) (λ e. h 0 x (omega arith) (sym (same name x.now e))) in
    rw first (none_there xs name (λ k d p. h (suc k) d (omega arith)))

no_code : (os : List Operation) (names : List Name) (name : Name) → have_names names os ≡ true → list_any (bytes_eq name) names ≡ false → None ≡ code_in os name
no_code [] names name h none = refl
no_code (o ∷ os) names name h none =
    let parts = and_parts (list_any (bytes_eq o.name) names) (have_names names os) h in
    let other =
    false_from_ne_true (bytes_eq o.name name)
    (λ e. both_ways _ none (ap (λ n. list_any (bytes_eq n) names) (sym (same o.name name e)) ∙ parts.0)) in
    rw other (no_code os names name parts.1 none)

other_name : (table : List (Bor (List ℕ))) (keys codes name : List ℕ) → are_by_name (names_of table) keys codes ≡ true
    → ((k : ℕ) (d : Bor (List ℕ)) → k < length table → (get_or table k d).now ≢ name)
    → None ≡ code_in operations name
unfolding are_by_name
other_name table keys codes name h other = no_code operations (names_of table) name (and_parts _ _ h).1 (none_there table name other)

-- the name beside the key is another
pub other_beside_key : (table : List (Bor (List ℕ))) (keys codes name : List ℕ) (position : ℕ) (d : Bor (List ℕ))
    → are_by_name (names_of table) keys codes ≡ true → position < length keys → get_or keys position 0 ≡ sixbit_of name
    → (get_or table position d).now ≢ name
    → None ≡ code_in operations name
other_beside_key table keys codes name position d h p key other = other_name table keys codes name h (λ k e within is.
    let long = as_long table keys codes h in
    let its_key = key_of_name table keys codes k e h within ∙ ap sixbit_of is in
    let here : k ≡ position = one_position keys k position (keys_of table keys codes h).1 (omega (arith, long)) p (its_key ∙ sym key) in
    other (ap (λ n. (get_or table n d).now) (sym here) ∙ any_default table k d e within ∙ is))
  where
    any_default : (table : List (Bor (List ℕ))) (k : ℕ) (d e : Bor (List ℕ)) → k < length table → (get_or table k d).now ≡ (get_or table k e).now
    any_default [] k d e p = absurd (omega arith)
    any_default (x ∷ xs) zero d e p = refl
    any_default (x ∷ xs) (suc k) d e p = any_default xs k d e (omega arith)

-- the key is that of no name
absent : (names : List Name) (keys : List ℕ) (name : Name) → have_keys names keys ≡ true
    → ((k : ℕ) → k < length keys → get_or keys k 0 ≢ sixbit_of name)
    → list_any (bytes_eq name) names ≡ false
absent [] keys name h other = refl
absent (n ∷ ns) [] name h other = absurd (false≢true h)
absent (n ∷ ns) (x ∷ xs) name h other =
    let parts = and_parts (sixbit_of n == x) (have_keys ns xs) h in
    let first =
    false_from_ne_true (bytes_eq name n)
    (λ e. other 0 (omega arith) (sym (eqb-true (sixbit_of n) x parts.0) ∙ ap sixbit_of (sym (same name n e)))) in
    rw first (absent ns xs name parts.1 (λ k p. other (suc k) (omega arith)))

pub no_code_found : (names : List Name) (keys codes : List ℕ) (key position : ℕ) (name : Name) → are_by_name names keys codes ≡ true
    → IsBinarySearchResult (λ y. nat_cmp y key) keys (Err position) → sixbit_of name ≡ key
    → None ≡ code_in operations name
unfolding are_by_name
no_code_found names keys codes key position name h found e =
    let parts = and_parts _ _ h in
    let tables = and_parts _ _ (and_parts _ _ parts.0).1 in
    let parted = searched keys key (Err position) found (not_falling keys tables.1) in
    no_code operations names name parts.1 (absent names keys name tables.0 (λ k within is. elim (cases_lt k position) [
      | inl lt ↦ (let less = parted.1 k lt in omega (arith, less, is))
      | inr le ↦ (let more = parted.2 k le within in omega (arith, more, is))
    ]))
