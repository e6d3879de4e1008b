-- Names by their keys. The program's tables are compared with the operations once, over the whole table.
use Rattle.std.proofs.Common.{◌≡◌, ◌==◌, ℕ, zero, suc, ◌+◌, ◌*◌, ◌-◌, ◌%◌, ◌^◌, ◌<◌, ◌≤◌, Bool, true, false, List, [], ◌∷◌, length}
use Rattle.std.proofs.Common.{get_or, map, Option, Some, None, nat_cmp, cond, Err, refl, sym, ap, ◌∙◌, arith}
use Rattle.std.specs.Prelude.{nat_lt, nat_le, if◌then◌else◌}
use Rattle.std.specs.List.{list_all}
use Rattle.std.specs.declared.cmp.Ordering.TheVariants.{Less, Equal, Greater}
use Rattle.std.specs.Option.{option_map}
use Rattle.std.specs.Str.{bytes_eq}
use Rattle.std.specs.List.Sorted.{IsBinarySearchResult}
use Rattle.std.proofs.lemmas.Bool.{and_parts, eqb-true, ltb-true, leb-true}
use Rattle.ka_isa.specs.Keys.{code_at, sixbit_of, has_code, is_plain}
use Rattle.ka_isa.specs.Operations.{Name, Operation, operations, code_in, operation_meaning}
use Rattle.ka_isa.specs.Tables.{are_by_name, have_keys}
use Rattle.ka_isa.specs.declared.names.TheConstants.{NAMES, KEYS, CODES}
use Rattle.ka_isa.proofs.SearchLemmas.{key_there, as_many, code_beside, same, no_code_found}
use Rattle.ka_isa.proofs.MeaningLemmas.{code_below}

-- ---- two plain names have one key only where they are the same

code_tells : (a b : ℕ) → has_code a ≡ true → has_code b ≡ true → (a - 32) % 64 ≡ (b - 32) % 64 → a ≡ b
code_tells a b h k e =
    let p = and_parts (nat_lt 32 a) (nat_lt a 96) h in
    let q = and_parts (nat_lt 32 b) (nat_lt b 96) k in
    let al = ltb-true 32 a p.0 in
    let au = ltb-true a 96 p.1 in
    let bl = ltb-true 32 b q.0 in
    let bu = ltb-true b 96 q.1 in
    omega (arith, e)

no_blank : (a : ℕ) → has_code a ≡ true → (a - 32) % 64 ≡ 0 → ⊥
no_blank a h e =
    let p = and_parts (nat_lt 32 a) (nat_lt a 96) h in
    let al = ltb-true 32 a p.0 in
    let au = ltb-true a 96 p.1 in
    omega (arith, e)

codes_tell : (n : ℕ) (xs ys : List ℕ) → length xs ≤ n → length ys ≤ n → list_all has_code xs ≡ true → list_all has_code ys ≡ true
    → ((i : ℕ) → i < n → code_at xs i ≡ code_at ys i)
    → xs ≡ ys
codes_tell n [] [] a b h k e = refl
codes_tell n [] (y ∷ ys) a b h k e = absurd (no_blank y (and_parts _ _ k).0 (sym (e 0 (omega arith))))
codes_tell n (x ∷ xs) [] a b h k e = absurd (no_blank x (and_parts _ _ h).0 (e 0 (omega arith)))
codes_tell zero (x ∷ xs) (y ∷ ys) a b h k e = absurd (omega arith)
codes_tell (suc n) (x ∷ xs) (y ∷ ys) a b h k e =
    let p = and_parts (has_code x) (list_all has_code xs) h in
    let q = and_parts (has_code y) (list_all has_code ys) k in
    let first = code_tells x y p.0 q.0 (e 0 (omega arith)) in
    let rest = codes_tell n xs ys (omega arith) (omega arith) p.1 q.1 (λ i lt. e (suc i) (omega arith)) in
    cc

two_digits : (a b x y : ℕ) → x < 64 → y < 64 → a * 64 + x ≡ b * 64 + y → (a ≡ b) × (x ≡ y)
two_digits a b x y p q e = (omega arith, omega arith)

one_number : (a b c d e f x y z u v w : ℕ) → b < 64 → c < 64 → d < 64 → e < 64 → f < 64 → y < 64 → z < 64 → u < 64 → v < 64 → w < 64
    → a * 2 ^ 30 + b * 2 ^ 24 + c * 2 ^ 18 + d * 2 ^ 12 + e * 2 ^ 6 + f ≡ x * 2 ^ 30 + y * 2 ^ 24 + z * 2 ^ 18 + u * 2 ^ 12 + v * 2 ^ 6 + w
    → (a ≡ x) × (b ≡ y) × (c ≡ z) × (d ≡ u) × (e ≡ v) × (f ≡ w)
one_number a b c d e f x y z u v w b' c' d' e' f' y' z' u' v' w' same =
    let last =
    two_digits (a * 2 ^ 24 + b * 2 ^ 18 + c * 2 ^ 12 + d * 2 ^ 6 + e) (x * 2 ^ 24 + y * 2 ^ 18 + z * 2 ^ 12 + u * 2 ^ 6 + v) f
    w f' w' (omega (arith, same)) in
    let fifth = two_digits (a * 2 ^ 18 + b * 2 ^ 12 + c * 2 ^ 6 + d) (x * 2 ^ 18 + y * 2 ^ 12 + z * 2 ^ 6 + u) e v e' v' (omega (arith, last.0)) in
    let fourth = two_digits (a * 2 ^ 12 + b * 2 ^ 6 + c) (x * 2 ^ 12 + y * 2 ^ 6 + z) d u d' u' (omega (arith, fifth.0)) in
    let third = two_digits (a * 2 ^ 6 + b) (x * 2 ^ 6 + y) c z c' z' (omega (arith, fourth.0)) in
    let second = two_digits a x b y b' y' (omega (arith, third.0)) in
    (second.0, second.1, third.1, fourth.1, fifth.1, last.1)

six_bits : (xs : List ℕ) (i : ℕ) → code_at xs i < 64
six_bits xs i = omega arith

pub sixbit_tells : (xs ys : List ℕ) → length xs ≤ 6 → length ys ≤ 6 → list_all has_code xs ≡ true → list_all has_code ys ≡ true
    → sixbit_of xs ≡ sixbit_of ys
    → xs ≡ ys
sixbit_tells xs ys a b h k same =
    let p =
    one_number (code_at xs 0) (code_at xs 1) (code_at xs 2) (code_at xs 3) (code_at xs 4) (code_at xs 5) (code_at ys 0)
    (code_at ys 1) (code_at ys 2) (code_at ys 3) (code_at ys 4) (code_at ys 5)
    (six_bits xs 1) (six_bits xs 2) (six_bits xs 3) (six_bits xs 4) (six_bits xs 5) (six_bits ys 1) (six_bits ys 2)
    (six_bits ys 3) (six_bits ys 4) (six_bits ys 5) same in
    codes_tell 6 xs ys a b h k (λ i lt. each p i lt)
  where
    each : (code_at xs 0 ≡ code_at ys 0) × (code_at xs 1 ≡ code_at ys 1) × (code_at xs 2 ≡ code_at ys 2)
        × (code_at xs 3 ≡ code_at ys 3) × (code_at xs 4 ≡ code_at ys 4) × (code_at xs 5 ≡ code_at ys 5) → (i : ℕ) → i < 6
        → code_at xs i ≡ code_at ys i
    each p zero lt = p.0
    each p (suc zero) lt = p.1
    each p (suc (suc zero)) lt = p.2
    each p (suc (suc (suc zero))) lt = p.3
    each p (suc (suc (suc (suc zero)))) lt = p.4
    each p (suc (suc (suc (suc (suc zero))))) lt = p.5
    each p (suc (suc (suc (suc (suc (suc i)))))) lt = absurd (omega arith)

-- ---- the tables

pub tables_agree : are_by_name (map (λ name. name.now) NAMES) KEYS CODES ≡ true
unfolding operations are_by_name
tables_agree = refl

all_plain : list_all (λ o. is_plain o.name) operations ≡ true
unfolding operations
all_plain = refl

plain_first : (b : Bool) (first name : Name) (here code : ℕ) (rest : Option ℕ) → (b ≡ true → first ≡ name) → is_plain first ≡ true
    → Some code ≡ (if b then Some here else rest) → (Some code ≡ rest → is_plain name ≡ true) → is_plain name ≡ true
plain_first true first name here code rest e plain found later = ap is_plain (sym (e refl)) ∙ plain
plain_first false first name here code rest e plain found later = later found

plain_name : (os : List Operation) (name : Name) (code : ℕ) → list_all (λ o. is_plain o.name) os ≡ true → Some code ≡ code_in os name → is_plain name ≡ true
plain_name [] name code h found = cc
plain_name (o ∷ os) name code h found =
    let parts = and_parts (is_plain o.name) (list_all (λ o. is_plain o.name) os) h in
    plain_first (bytes_eq o.name name) o.name name o.code code (code_in os name) (same o.name name) parts.0 found
    (λ later. plain_name os name code parts.1 later)

-- an operation by its key
pub record IsOperation (key code : ℕ) : Type 0 where
  pub name : Name
  pub plain : is_plain name ≡ true
  pub its_key : key ≡ sixbit_of name
  pub its_code : Some code ≡ code_in operations name
  pub small : code < 512

stands_at : (names : List Name) (keys codes : List ℕ) (position : ℕ) → are_by_name names keys codes ≡ true → position < length keys
    → (position < length codes) × IsOperation (get_or keys position 0) (get_or codes position 0)
unfolding are_by_name
stands_at names keys codes position h within =
    let parts = and_parts _ _ h in
    let tables = and_parts _ _ parts.0 in
    let keyed : have_keys names keys ≡ true = (and_parts _ _ tables.1).0 in
    let inside : position < length names = omega (arith, as_many names keys keyed) in
    let code = code_beside operations names codes position tables.0 inside in (
      code.0,
      record {
        name = get_or names position [];
        plain = plain_name operations (get_or names position []) (get_or codes position 0) all_plain code.1;
        its_key = (key_there names keys position keyed inside).1;
        its_code = code.1;
        small = code_below (get_or names position []) (get_or codes position 0) code.1;
      },
    )

pub operation_at : (position : ℕ) → position < length KEYS → (position < length CODES) × IsOperation (get_or KEYS position 0) (get_or CODES position 0)
operation_at position within = stands_at (map (λ name. name.now) NAMES) KEYS CODES position tables_agree within

pub means : (key code : ℕ) (name : Name) → IsOperation key code → is_plain name ≡ true → sixbit_of name ≡ key
    → Some (operation_meaning code) ≡ option_map operation_meaning (code_in operations name)
means key code name operation plain e =
    let here = and_parts (nat_le (length name) 6) (list_all has_code name) plain in
    let there = and_parts (nat_le (length operation.name) 6) (list_all has_code operation.name) operation.plain in
    let one =
    sixbit_tells operation.name name (leb-true (length operation.name) 6 there.0) (leb-true (length name) 6 here.0) there.1
    here.1 (sym operation.its_key ∙ sym e) in
    ap (option_map operation_meaning) (operation.its_code ∙ ap (code_in operations) one)

pub means_nothing : (key position : ℕ) (name : Name) → IsBinarySearchResult (λ y. nat_cmp y key) KEYS (Err position)
    → sixbit_of name ≡ key
    → None ≡ option_map operation_meaning (code_in operations name)
means_nothing key position name found e =
    ap (option_map operation_meaning) (no_code_found (map (λ name. name.now) NAMES) KEYS CODES key position name tables_agree found e)

equal_numbers : (less equal : Bool) → cond less Less (cond equal Equal Greater) ≡ Equal → equal ≡ true
equal_numbers true equal h = cc
equal_numbers false true h = refl
equal_numbers false false h = cc

pub found_key : (x y : ℕ) → nat_cmp x y ≡ Equal → x ≡ y
found_key x y h = eqb-true x y (equal_numbers (nat_lt x y) (x == y) h)
