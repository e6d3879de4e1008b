-- Marks, addresses and labels while lines are laid out.
use Rattle.std.proofs.Common.{◌≡◌, ◌∙◌, sym, ap, refl, subst, ℕ, zero, suc, ◌+◌, ◌-◌, ◌^◌, ◌<◌, ◌≤◌, ◌⊎◌, inl, inr, Bool, true, false, not, ◌&&◌, ◌||◌, ◌==◌}
use Rattle.std.proofs.Common.{cond, nat_eq, nat_lt, nat_le, IfOk, List, [], ◌∷◌, ◌++◌, length, take, drop, set, replicate, get_or, min, map, is_some, Option}
use Rattle.std.proofs.Common.{Some, None, Result, Ok, Err, append-nil, arith, length-append, length-drop, append_assoc}
use Rattle.std.specs.List.{range_with_len, list_any, between}
use Rattle.std.specs.Map.{lookup, keys_of}
use Rattle.indexmap.specs.IndexMap.{insert_entry}
use Rattle.std.proofs.lemmas.Map.Made.{is_some-lookup}
use Rattle.std.proofs.lemmas.Bool.{and_parts}
use Rattle.std.proofs.lemmas.List.{at_drop_all, drop_more, take_more, take_all, take-append-drop, map-append, length-take-le, length-replicate, length-set}
use Rattle.std.proofs.lemmas.List.{get_or-set_same, get_or-set_other, get_or-take, get_or-drop, get_or-replicate, get_or_append_left, get_or-append_right}
use Rattle.std.proofs.lemmas.List.Folds.{list_any-append}
use Rattle.std.proofs.lemmas.Bool.Decides.{nat_tests, leb_tells, eqb_tells}
use Rattle.mac_layout.specs.declared.error.AsmCode.{AsmCode}
use Rattle.mac_layout.specs.declared.error.AsmCode.TheVariants.{DefinedTwice, DoesNotFit, AddressTooHigh}
use Rattle.mac_layout.specs.Addresses.{are_apart, Labels, addresses_from}
use Rattle.mac_layout.specs.Faults.{Fault, unless_fault, number_of, least, code_if, code_of}
use Rattle.mac_layout.specs.LaidOut.{Layout, checked_count, checked_size, literal_size, with_labels, labels_code, statement_code, with_statement}
use Rattle.mac_layout.specs.LaidOut.{line_code, with_line, laid_out, count_or, is_taken, addresses_in, taking, taking_size, taking_all}
use Rattle.mac_layout.specs.Layouts.{AreMarks, StandsFor, Lays, Defines, with_size}
use Rattle.mac_text.specs.declared.syntax.SignedTerm.{SignedTerm}
use Rattle.mac_text.specs.declared.syntax.Data.{Data}
use Rattle.mac_text.specs.declared.syntax.Statement.{Statement}
use Rattle.mac_text.specs.declared.syntax.Statement.TheVariants as statements
use Rattle.mac_text.specs.declared.syntax.Line.{Line}
use Rattle.mac_layout.specs.declared.layout.Progress.{Progress}

part_fits : (address first len count : ℕ) → len ≡ count → (address ≡ first) ⊎ (len ≡ 0) → range_with_len first len ≡ range_with_len address count
part_fits address first len count e (inl same) = ap (λ p. range_with_len p len) (sym same) ∙ ap (range_with_len address) e
part_fits address first len count e (inr none) = ap (range_with_len first) none ∙ ap (range_with_len address) (sym none ∙ e)

part_by : (address size first len : ℕ) (b : Bool) → first ≡ min address (2 ^ 18) → len ≡ min size (2 ^ 18 - first)
    → nat_le size (2 ^ 18 - address) ≡ b
    → range_with_len first len ≡ range_with_len address (cond b size (2 ^ 18 - address))
part_by address size first len true f l e =
    let at : (address ≡ first) ⊎ (len ≡ 0) = elim (leb_tells address (2 ^ 18)) [ inl h ↦ inl (omega (arith, h.1)) | inr h ↦ inr (omega (arith, h.1)) ] in
    part_fits address first len size (grind (arith, nat_tests)) at
part_by address size first len false f l e =
    let at : (address ≡ first) ⊎ (len ≡ 0) = elim (leb_tells address (2 ^ 18)) [ inl h ↦ inl (omega (arith, h.1)) | inr h ↦ inr (omega (arith, h.1)) ] in
    part_fits address first len (2 ^ 18 - address) (grind (arith, nat_tests)) at

-- of so many addresses from one on, those below 2 ^ 18
pub part_is : (all address size first len : ℕ) → first ≡ min address all → len ≡ min size (all - first) → all ≡ 2 ^ 18
    → range_with_len first len ≡ addresses_in address size
part_is all address size first len f l a =
    part_by address size first len (nat_le size (2 ^ 18 - address)) (f ∙ ap (min address) a) (l ∙ ap (λ n. min size (n - first)) a) refl

-- whether they are all below
pub room_is : (all address size first : ℕ) → first ≡ min address all → all ≡ 2 ^ 18
    → not (nat_le size (all - first)) ≡ (not (size == 0) && not (nat_le (address + size) (2 ^ 18)))
room_is all address size first f a = grind (arith, nat_tests)

pub no_room : (address size : ℕ) → 2 ^ 64 ≤ size → true ≡ (not (size == 0) && not (nat_le (address + size) (2 ^ 18)))
no_room address size h = grind (arith, nat_tests)

-- marks tell whether addresses are taken
pub are_any_taken : (marks : List Bool) (past : List ℕ) → AreMarks marks past → (first n : ℕ) → first + n ≤ 2 ^ 18
    → list_any (λ m. m) (take n (drop first marks)) ≡ list_any (is_taken past) (range_with_len first n)
are_any_taken marks past m first zero le = refl
are_any_taken marks past m first (suc n) le =
    let here : first < 2 ^ 18 = omega arith in
    let more = are_any_taken marks past m (first + 1) n (omega arith) in
    ap (λ l. list_any (λ m. m) (take (suc n) l)) (drop_more marks first false (omega (arith, m.all)))
    ∙ ap (λ b. b || list_any (λ m. m) (take n (drop (first + 1) marks))) (m.each first here)
    ∙ ap (λ b. is_taken past first || b) more

and_false : (a : Bool) → (a && false) ≡ false
and_false true = refl
and_false false = refl

or_parts : (a b : Bool) → (a || b) ≡ false → (a ≡ false) × (b ≡ false)
or_parts true b h = absurd (cc)
or_parts false b h = (refl, h)

is_nothing : {A : Type 0} (o : Option A) → is_some o ≡ false → o ≡ None
is_nothing None h = refl
is_nothing (Some x) h = absurd (cc)

least_twice : (high : Bool) → least (Some DefinedTwice) (code_if high AddressTooHigh) ≡ Some DefinedTwice
unfolding least
least_twice true = refl
least_twice false = refl

least_none : (code : Option AsmCode) → least None code ≡ code
unfolding least
least_none None = refl
least_none (Some code) = refl

taking_by : (past : List ℕ) (address size : ℕ) (any high : Bool) → list_any (is_taken past) (addresses_in address size) ≡ any
    → (not (size == 0) && not (nat_le (address + size) (2 ^ 18))) ≡ high
    → taking past address size ≡ least (code_if any DefinedTwice) (code_if high AddressTooHigh)
unfolding taking
taking_by past address size any high a h =
    ap (λ b. least (code_if b DefinedTwice) (code_if (not (size == 0) && not (nat_le (address + size) (2 ^ 18))) AddressTooHigh)) a
    ∙ ap (λ b. least (code_if any DefinedTwice) (code_if b AddressTooHigh)) h

any_of_part : (marks : List Bool) (past : List ℕ) (address size first len : ℕ) (any : Bool) → AreMarks marks past → first + len ≤ length marks
    → (length marks ≡ 2 ^ 18 → range_with_len first len ≡ addresses_in address size) → any ≡ list_any (λ m. m) (between first (first + len) marks)
    → list_any (is_taken past) (addresses_in address size) ≡ any
any_of_part marks past address size first len any m within addresses is =
    let n : (first + len) - first ≡ len = omega arith in
    ap (list_any (is_taken past)) (sym (addresses m.all))
    ∙ sym (are_any_taken marks past m first len (omega (arith, m.all)))
    ∙ sym (is ∙ ap (λ k. list_any (λ m. m) (take k (drop first marks))) n)

pub taking_twice : (marks : List Bool) (past : List ℕ) (address size first len : ℕ) (any : Bool) → AreMarks marks past → first + len ≤ length marks
    → (length marks ≡ 2 ^ 18 → range_with_len first len ≡ addresses_in address size) → any ≡ list_any (λ m. m) (between first (first + len) marks)
    → any ≡ true → Some DefinedTwice ≡ taking past address size
taking_twice marks past address size first len any m within addresses is e =
    let high = not (size == 0) && not (nat_le (address + size) (2 ^ 18)) in
    sym (least_twice high) ∙ sym (taking_by past address size true high (any_of_part marks past address size first len any m within addresses is ∙ e) refl)

pub taking_once : (marks : List Bool) (past : List ℕ) (address size first len : ℕ) (any high : Bool) → AreMarks marks past → first + len ≤ length marks
    → (length marks ≡ 2 ^ 18 → range_with_len first len ≡ addresses_in address size) → any ≡ list_any (λ m. m) (between first (first + len) marks)
    → any ≡ false → (length marks ≡ 2 ^ 18 → high ≡ (not (size == 0) && not (nat_le (address + size) (2 ^ 18))))
    → code_if high AddressTooHigh ≡ taking past address size
taking_once marks past address size first len any high m within addresses is e h =
    sym (least_none (code_if high AddressTooHigh))
    ∙ sym
    (taking_by past address size false high (any_of_part marks past address size first len any m within addresses is ∙ e)
    (sym (h m.all)))

-- which numbers stand in a range
range_above : (p first len : ℕ) → p < first → list_any (nat_eq p) (range_with_len first len) ≡ false
range_above p first zero lt = refl
range_above p first (suc len) lt =
    let no : nat_eq p first ≡ false = grind (arith, nat_tests) in
    ap (λ b. b || list_any (nat_eq p) (range_with_len (first + 1) len)) no ∙ range_above p (first + 1) len (omega arith)

range_below : (p first len : ℕ) → first + len ≤ p → list_any (nat_eq p) (range_with_len first len) ≡ false
range_below p first zero le = refl
range_below p first (suc len) le =
    let no : nat_eq p first ≡ false = grind (arith, nat_tests) in
    ap (λ b. b || list_any (nat_eq p) (range_with_len (first + 1) len)) no ∙ range_below p (first + 1) len (omega arith)

or_true : (a : Bool) → (a || true) ≡ true
or_true true = refl
or_true false = refl

or_false : (a : Bool) → (a || false) ≡ a
or_false true = refl
or_false false = refl

range_has : (p first len : ℕ) → first ≤ p → p < first + len → list_any (nat_eq p) (range_with_len first len) ≡ true
range_has p first zero ge lt = absurd (omega arith)
range_has p first (suc len) ge lt =
    elim (leb_tells p first) [
      | inl h ↦ (let yes : nat_eq p first ≡ true = grind (arith, nat_tests, h.1) in
          ap (λ b. b || list_any (nat_eq p) (range_with_len (first + 1) len)) yes)
      | inr h ↦ ap (λ b. nat_eq p first || b) (range_has p (first + 1) len (omega (arith, h.1)) (omega (arith, h.1))) ∙ or_true (nat_eq p first)
    ]

-- a mark of a list in three parts
first_part : (marks part rest : List Bool) (first p : ℕ) → first ≤ length marks → p < first
    → get_or (take first marks ++ (part ++ rest)) p false ≡ get_or marks p false
first_part marks part rest first p le lt =
    let n = length-take-le first marks le in
    get_or_append_left (take first marks) (part ++ rest) false p (omega arith) ∙ get_or-take first marks p false lt

second_part : (marks part rest : List Bool) (first len p : ℕ) → first ≤ length marks → part ≡ replicate len true → first ≤ p → p < first + len
    → get_or (take first marks ++ (part ++ rest)) p false ≡ true
second_part marks part rest first len p le is ge lt =
    let n = length-take-le first marks le in
    let k : length part ≡ len = ap length is ∙ length-replicate len true in
    get_or-append_right (take first marks) (part ++ rest) first p false n ge
    ∙ get_or_append_left part rest false (p - first) (omega arith)
    ∙ ap (λ l. get_or l (p - first) false) is ∙ get_or-replicate len (p - first) true false (omega arith)

third_part : (marks part : List Bool) (first len p : ℕ) → first + len ≤ length marks → length part ≡ len → first + len ≤ p
    → get_or (take first marks ++ (part ++ drop len (drop first marks))) p false ≡ get_or marks p false
third_part marks part first len p le k ge =
    let n = length-take-le first marks (omega arith) in
    let at : first + (len + (p - first - len)) ≡ p = omega arith in
    get_or-append_right (take first marks) (part ++ drop len (drop first marks)) first p false n (omega arith)
    ∙ get_or-append_right part (drop len (drop first marks)) len (p - first) false k (omega arith)
    ∙ get_or-drop len (drop first marks) (p - first - len) false
    ∙ get_or-drop first marks (len + (p - first - len)) false
    ∙ ap (λ i. get_or marks i false) at

taken_more : (past more : List ℕ) (p : ℕ) (b : Bool) → list_any (nat_eq p) more ≡ b → is_taken (past ++ more) p ≡ (is_taken past p || b)
taken_more past more p b e = list_any-append (nat_eq p) past more ∙ ap (λ x. is_taken past p || x) e

marked_each : (marks part : List Bool) (past : List ℕ) (first len p : ℕ) → AreMarks marks past → first + len ≤ length marks
    → part ≡ replicate len true
    → p < 2 ^ 18
    → get_or (take first marks ++ (part ++ drop len (drop first marks))) p false ≡ is_taken (past ++ range_with_len first len) p
marked_each marks part past first len p m within is lt =
    let k : length part ≡ len = ap length is ∙ length-replicate len true in
    let old = m.each p lt in
    elim (leb_tells first p) [
      | inr h ↦ first_part marks part (drop len (drop first marks)) first p (omega arith) h.1 ∙ old
          ∙ sym (taken_more past (range_with_len first len) p false (range_above p first len h.1) ∙ or_false (is_taken past p))
      | inl h ↦ elim (leb_tells (first + len) p) [
        | inl g ↦ third_part marks part first len p within k g.1 ∙ old
            ∙ sym (taken_more past (range_with_len first len) p false (range_below p first len g.1) ∙ or_false (is_taken past p))
        | inr g ↦ second_part marks part (drop len (drop first marks)) first len p (omega arith) is h.1 g.1
            ∙ sym (taken_more past (range_with_len first len) p true (range_has p first len h.1 g.1) ∙ or_true (is_taken past p))
      ]
    ]

-- the marks where a part is marked
pub marked : (marks part : List Bool) (past : List ℕ) (address size first len n : ℕ) → AreMarks marks past
    → first + len ≤ length marks → n ≡ len
    → part ≡ replicate len true
    → (length marks ≡ 2 ^ 18 → range_with_len first len ≡ addresses_in address size)
    → AreMarks (take first marks ++ (part ++ drop n (drop first marks))) (past ++ addresses_in address size)
marked marks part past address size first len n m within e is addresses =
    let k : length part ≡ len = ap length is ∙ length-replicate len true in
    let rest = drop len (drop first marks) in
    let new = take first marks ++ (part ++ rest) in
    let all : length new ≡ 2 ^ 18 =
    omega (
      arith,
      m.all,
      length-append (take first marks) (part ++ rest),
      length-append part rest,
      length-take-le first marks (omega arith),
      length-drop len (drop first marks),
      length-drop first marks,
    ) in
    let each = λ (p : ℕ) (lt : p < 2 ^ 18). marked_each marks part past first len p m within is lt in
    let R : ℕ → List ℕ → Type 0 = λ i addresses. AreMarks (take first marks ++ (part ++ drop i (drop first marks))) (past ++ addresses) in
    subst (λ i. R i (addresses_in address size)) (sym e) (subst (R len) (addresses m.all) (record { all = all; each = each }))

-- a label that is given twice
apart_twice : (name : ℕ) (front rest : List ℕ) → list_any (nat_eq name) front ≡ true → are_apart (front ++ name ∷ rest) ≡ false
unfolding are_apart
apart_twice name [] rest h = absurd (cc)
apart_twice name (k ∷ front) rest h =
    elim (eqb_tells name k) [
      | inl e ↦ (let yes : nat_eq k name ≡ true = grind (arith, nat_tests, e.1) in
          let there : list_any (nat_eq k) (front ++ name ∷ rest) ≡ true =
          list_any-append (nat_eq k) front (name ∷ rest)
          ∙ ap (λ b. list_any (nat_eq k) front || (b || list_any (nat_eq k) rest)) yes
          ∙ or_true (list_any (nat_eq k) front) in
          ap (λ b. not b && are_apart (front ++ name ∷ rest)) there)
      | inr e ↦ (let later : list_any (nat_eq name) front ≡ true = sym (ap (λ b. b || list_any (nat_eq name) front) e.0) ∙ h in
          ap (λ b. not (list_any (nat_eq k) (front ++ name ∷ rest)) && b) (apart_twice name front rest later)
          ∙ and_false (not (list_any (nat_eq k) (front ++ name ∷ rest))))
    ]

-- a label that is new
apart_once : (name : ℕ) (front : List ℕ) → are_apart front ≡ true → list_any (nat_eq name) front ≡ false → are_apart (front ++ name ∷ []) ≡ true
unfolding are_apart
apart_once name [] h new = refl
apart_once name (k ∷ front) h new =
    let parts = and_parts (not (list_any (nat_eq k) front)) (are_apart front) h in
    let kept = or_parts (nat_eq name k) (list_any (nat_eq name) front) new in
    let other : nat_eq k name ≡ false = grind (arith, nat_tests, kept.0) in
    let none : list_any (nat_eq k) (front ++ name ∷ []) ≡ list_any (nat_eq k) front =
    list_any-append (nat_eq k) front (name ∷ []) ∙ ap (λ b. list_any (nat_eq k) front || (b || false)) other ∙ or_false (list_any (nat_eq k) front) in
    ap (λ b. not b && are_apart (front ++ name ∷ [])) none ∙ ap (λ b. b && are_apart (front ++ name ∷ [])) parts.0 ∙ apart_once name front parts.1 kept.1

abbrev own : ℕ → List ℕ → Labels
own address names = map (λ name. (name, address)) names

keys_own : (address : ℕ) (names : List ℕ) → keys_of (own address names) ≡ names
keys_own address [] = refl
keys_own address (name ∷ names) = ap (λ l. name ∷ l) (keys_own address names)

pub keys_more : (labels : Labels) (address : ℕ) (names : List ℕ) → keys_of (labels ++ own address names) ≡ keys_of labels ++ names
keys_more labels address names = map-append (λ e. e.0) labels (own address names) ∙ ap (λ l. keys_of labels ++ l) (keys_own address names)

insert_at : (name address : ℕ) (e : ℕ × ℕ) (labels : Labels) (b : Bool) → nat_eq name e.0 ≡ b → cond b (Some e.1) (lookup (nat_eq name) labels) ≡ None
    → (lookup (nat_eq name) labels ≡ None → insert_entry nat_eq labels name address ≡ labels ++ (name, address) ∷ [])
    → insert_entry nat_eq (e ∷ labels) name address ≡ e ∷ (labels ++ (name, address) ∷ [])
insert_at name address e labels true is h more = absurd (cc)
insert_at name address e labels false is h more =
    ap (λ b. cond b ((e.0, address) ∷ labels) (e ∷ insert_entry nat_eq labels name address)) is ∙ ap (λ l. e ∷ l) (more h)

insert_new : (labels : Labels) (name address : ℕ) → lookup (nat_eq name) labels ≡ None → insert_entry nat_eq labels name address ≡ labels ++ (name, address) ∷ []
insert_new [] name address h = refl
insert_new (e ∷ labels) name address h = insert_at name address e labels (nat_eq name e.0) refl h (insert_new labels name address)

-- one of the labels has an address already
pub define_fails : (old now : Labels) (names : List ℕ) (address i name d : ℕ) → i < length names → now ≡ old ++ own address (take i names)
    → name ≡ get_or names i d → is_some (lookup (nat_eq name) now) ≡ true → false ≡ are_apart (keys_of old ++ names)
define_fails old now names address i name d lt so_far item h =
    let keys : keys_of now ≡ keys_of old ++ take i names = ap keys_of so_far ∙ keys_more old address (take i names) in
    let parted : take i names ++ (name ∷ drop (i + 1) names) ≡ names =
    ap (λ l. take i names ++ l) (ap (λ n. n ∷ drop (i + 1) names) item ∙ sym (drop_more names i d lt))
    ∙ take-append-drop i names in
    let all : keys_of now ++ name ∷ drop (i + 1) names ≡ keys_of old ++ names =
    ap (λ l. l ++ name ∷ drop (i + 1) names) keys ∙ append_assoc (keys_of old) (take i names) (name ∷ drop (i + 1) names) ∙ ap (λ l. keys_of old ++ l) parted in
    sym (ap are_apart (sym all) ∙ apart_twice name (keys_of now) (drop (i + 1) names) (sym (is_some-lookup (nat_eq name) now) ∙ h))

-- one label more
pub define_more : (old now new : Labels) (names : List ℕ) (address i name d : ℕ) → i < length names → now ≡ old ++ own address (take i names)
    → name ≡ get_or names i d → is_some (lookup (nat_eq name) now) ≡ false → new ≡ insert_entry nat_eq now name address
    → new ≡ old ++ own address (take (i + 1) names)
define_more old now new names address i name d lt so_far item h is =
    is ∙ insert_new now name address (is_nothing (lookup (nat_eq name) now) h)
    ∙ ap (λ l. l ++ (name, address) ∷ []) so_far ∙ append_assoc old (own address (take i names)) ((name, address) ∷ [])
    ∙ ap (λ l. old ++ l)
    (sym (map-append (λ n. (n, address)) (take i names) (name ∷ []))
    ∙ ap (own address) (ap (λ n. take i names ++ n ∷ []) item ∙ sym (take_more names i d lt)))

pub still_apart : (now new : Labels) (name address : ℕ) → is_some (lookup (nat_eq name) now) ≡ false → new ≡ insert_entry nat_eq now name address
    → are_apart (keys_of now) ≡ true → are_apart (keys_of new) ≡ true
still_apart now new name address h is apart =
    ap (λ l. are_apart (keys_of l)) (is ∙ insert_new now name address (is_nothing (lookup (nat_eq name) now) h))
    ∙ ap are_apart (keys_more now address (name ∷ []))
    ∙ apart_once name (keys_of now) apart (sym (is_some-lookup (nat_eq name) now) ∙ h)

pub define_done : (old now : Labels) (names : List ℕ) (address i : ℕ) → length names ≤ i → now ≡ old ++ own address (take i names)
    → now ≡ old ++ own address names
define_done old now names address i ge so_far = so_far ∙ ap (λ l. old ++ own address l) (take_all i names ge)

-- no address is taken yet
pub unmarked_all : (marks : List Bool) (n : ℕ) → n ≡ 2 ^ 18 → marks ≡ replicate n false → AreMarks marks []
unmarked_all marks n all is = record {
  all = ap length is ∙ length-replicate n false ∙ all;
  each = λ address lt. ap (λ l. get_or l address false) is ∙ get_or-replicate n address false false (omega arith);
}

-- what is taken from an address on settles what is wrong from there on
any_same : (a b : List ℕ) (first n : ℕ) → ((q : ℕ) → first ≤ q → is_taken a q ≡ is_taken b q)
    → list_any (is_taken a) (range_with_len first n) ≡ list_any (is_taken b) (range_with_len first n)
any_same a b first zero same = refl
any_same a b first (suc n) same =
    ap (λ x. x || list_any (is_taken a) (range_with_len (first + 1) n)) (same first (omega arith))
    ∙ ap (λ x. is_taken b first || x) (any_same a b (first + 1) n (λ q ge. same q (omega arith)))

taking_same : (a b : List ℕ) (address size : ℕ) → ((q : ℕ) → address ≤ q → is_taken a q ≡ is_taken b q) → taking a address size ≡ taking b address size
unfolding taking
taking_same a b address size same =
    ap (λ x. least (code_if x DefinedTwice) (code_if (not (size == 0) && not (nat_le (address + size) (2 ^ 18))) AddressTooHigh))
    (any_same a b address (cond (nat_le size (2 ^ 18 - address)) size (2 ^ 18 - address)) same)

size_same : (a b : List ℕ) (address : ℕ) (size : Result ℕ AsmCode) → ((q : ℕ) → address ≤ q → is_taken a q ≡ is_taken b q)
    → taking_size a address size ≡ taking_size b address size
size_same a b address (Ok size) same = taking_same a b address size same
size_same a b address (Err code) same = refl

-- the literals stand one behind the other, so none takes an address of another
abbrev pub all_apart : List ℕ → ℕ → List (Result ℕ AsmCode) → Option AsmCode
all_apart taken address [] = None
all_apart taken address (size ∷ sizes) = least (taking_size taken address size) (all_apart taken (address + count_or 0 size) sizes)

behind : (taken : List ℕ) (address size q : ℕ) → address + size ≤ q → is_taken (taken ++ addresses_in address size) q ≡ is_taken taken q
behind taken address size q ge =
    let few : cond (nat_le size (2 ^ 18 - address)) size (2 ^ 18 - address) ≤ size = grind (arith, nat_tests) in
    taken_more taken (addresses_in address size) q false
    (range_below q address (cond (nat_le size (2 ^ 18 - address)) size (2 ^ 18 - address)) (omega arith))
    ∙ or_false (is_taken taken q)

all_same : (sizes : List (Result ℕ AsmCode)) (a b : List ℕ) (address : ℕ) → ((q : ℕ) → address ≤ q → is_taken a q ≡ is_taken b q)
    → all_apart b address sizes ≡ taking_all a address sizes
unfolding taking_all
all_same [] a b address same = refl
all_same (size ∷ sizes) a b address same =
    let more =
    all_same sizes (a ++ addresses_in address (count_or 0 size)) b (address + count_or 0 size)
    (λ q ge. behind a address (count_or 0 size) q ge ∙ same q (omega arith)) in
    ap (λ c. least c (all_apart b (address + count_or 0 size) sizes)) (sym (size_same a b address size same)) ∙ ap (least (taking_size a address size)) more

pub all_apart_is : (taken : List ℕ) (address : ℕ) (sizes : List (Result ℕ AsmCode)) → all_apart taken address sizes ≡ taking_all taken address sizes
all_apart_is taken address sizes = all_same sizes taken taken address (λ q ge. refl)

least_code : AsmCode → AsmCode → AsmCode
least_code a b = cond (nat_le (number_of a) (number_of b)) a b

least_some : (a b : AsmCode) → least (Some a) (Some b) ≡ Some (least_code a b)
unfolding least least_code
least_some a b = by (nat_le (number_of a) (number_of b))
  where
    by : (t : Bool) → cond t (Some a) (Some b) ≡ Some (cond t a b)
    by true = refl
    by false = refl

pub code_least_none : (code : Option AsmCode) → least code None ≡ code
unfolding least
code_least_none None = refl
code_least_none (Some code) = refl

three : (a b c : AsmCode) (ab bc ac : Bool) → nat_le (number_of a) (number_of b) ≡ ab → nat_le (number_of b) (number_of c) ≡ bc
    → nat_le (number_of a) (number_of c) ≡ ac
    → least_code (least_code a b) c ≡ least_code a (least_code b c)
unfolding least_code
three a b c true true true e f g = rw (e, f, g, e) refl
three a b c true true false e f g = absurd (grind (arith, nat_tests))
three a b c true false true e f g = rw (e, f, g) refl
three a b c true false false e f g = rw (e, f, g) refl
three a b c false true true e f g = rw (e, f, e) refl
three a b c false true false e f g = rw (e, f, e) refl
three a b c false false true e f g = absurd (grind (arith, nat_tests))
three a b c false false false e f g = rw (e, f, g) refl

-- the address of one word
no_addresses : (address : ℕ) → 2 ^ 18 ≤ address → addresses_in address 1 ≡ []
no_addresses address le =
    let no : nat_le 1 (2 ^ 18 - address) ≡ false = grind (arith, nat_tests) in
    let k : 2 ^ 18 - address ≡ 0 = omega arith in
    ap (λ b. range_with_len address (cond b 1 (2 ^ 18 - address))) no ∙ ap (range_with_len address) k

own_address : (address : ℕ) → address < 2 ^ 18 → addresses_in address 1 ≡ address ∷ []
own_address address lt =
    let yes : nat_le 1 (2 ^ 18 - address) ≡ true = grind (arith, nat_tests) in
    ap (λ b. range_with_len address (cond b 1 (2 ^ 18 - address))) yes

pub one_high : (past : List ℕ) (address : ℕ) → 2 ^ 18 ≤ address → Some AddressTooHigh ≡ taking past address 1
one_high past address le =
    let none : addresses_in address 1 ≡ [] = no_addresses address le in
    let high : (not (1 == 0) && not (nat_le (address + 1) (2 ^ 18))) ≡ true = grind (arith, nat_tests) in
    sym (taking_by past address 1 false true (ap (list_any (is_taken past)) none) high ∙ least_none (Some AddressTooHigh))

pub high_marks : (marks : List Bool) (past : List ℕ) (address : ℕ) → 2 ^ 18 ≤ address → AreMarks marks past → AreMarks marks (past ++ addresses_in address 1)
high_marks marks past address le m = subst (AreMarks marks) (sym (ap (λ l. past ++ l) (no_addresses address le) ∙ append-nil past)) m

pub one_low : (marks : List Bool) (past : List ℕ) (at address : ℕ) (twice : Bool) → at ≡ min address (length marks) → (at ≡ length marks → ⊥) → AreMarks marks past
    → get_or marks at false ≡ twice → code_if twice DefinedTwice ≡ taking past address 1
one_low marks past at address twice clamped within m is =
    let same : at ≡ address = omega arith in
    let lt : address < 2 ^ 18 = omega (arith, m.all) in
    let low : (not (1 == 0) && not (nat_le (address + 1) (2 ^ 18))) ≡ false = grind (arith, nat_tests) in
    let any : list_any (is_taken past) (addresses_in address 1) ≡ twice =
    ap (list_any (is_taken past)) (own_address address lt) ∙ or_false (is_taken past address) ∙ sym (m.each address lt)
    ∙ sym (ap (λ p. get_or marks p false) same) ∙ is in
    sym (taking_by past address 1 twice false any low ∙ code_least_none (code_if twice DefinedTwice))

set_each : (marks : List Bool) (past : List ℕ) (address p : ℕ) → address < 2 ^ 18 → p < 2 ^ 18 → AreMarks marks past
    → get_or (set marks address true) p false ≡ is_taken (past ++ address ∷ []) p
set_each marks past address p lt below m =
    elim (eqb_tells p address) [
      | inl e ↦ (let same : p ≡ address = e.1 in
          let yes : nat_eq p address ≡ true = grind (arith, nat_tests, e.1) in
          ap (λ q. get_or (set marks address true) q false) same ∙ get_or-set_same marks address true false (omega (arith, m.all))
          ∙ sym (taken_more past (address ∷ []) p true (ap (λ b. b || false) yes) ∙ or_true (is_taken past p)))
      | inr e ↦ (let no : nat_eq p address ≡ false = e.0 in
          get_or-set_other marks address p true false (λ h. e.1 h) ∙ m.each p below
          ∙ sym (taken_more past (address ∷ []) p false (ap (λ b. b || false) no) ∙ or_false (is_taken past p)))
    ]

pub low_marks : (marks : List Bool) (past : List ℕ) (at address : ℕ) → at ≡ min address (length marks) → (at ≡ length marks → ⊥) → AreMarks marks past
    → AreMarks (set marks at true) (past ++ addresses_in address 1)
low_marks marks past at address clamped within m =
    let same : address ≡ at = omega arith in
    let lt : address < 2 ^ 18 = omega (arith, m.all) in
    subst (λ p. AreMarks (set marks p true) (past ++ addresses_in address 1)) same
    (subst (λ l. AreMarks (set marks address true) (past ++ l)) (sym (own_address address lt)) (record {
      all = length-set marks address true ∙ m.all;
      each = λ p below. set_each marks past address p lt below m;
    }))

pub least_assoc : (a b c : Option AsmCode) → least (least a b) c ≡ least a (least b c)
unfolding least
least_assoc None b c = ap (λ x. least x c) (least_none b) ∙ sym (least_none (least b c))
least_assoc (Some a) None c = ap (least (Some a)) (sym (least_none c))
least_assoc (Some a) (Some b) None = code_least_none (least (Some a) (Some b))
least_assoc (Some a) (Some b) (Some c) =
    ap (λ x. least x (Some c)) (least_some a b) ∙ least_some (least_code a b) c
    ∙ ap Some (three a b c (nat_le (number_of a) (number_of b)) (nat_le (number_of b) (number_of c)) (nat_le (number_of a) (number_of c)) refl refl refl)
    ∙ sym (least_some a (least_code b c)) ∙ ap (least (Some a)) (sym (least_some b c))

-- one literal more
pub literals_more : (past : List ℕ) (code next : Option AsmCode) (at at' : ℕ) (sizes : List (Result ℕ AsmCode)) (i : ℕ)
    (size d : Result ℕ AsmCode) (total : Option AsmCode)
    → i < length sizes
    → size ≡ get_or sizes i d → next ≡ least code (taking_size past at size) → at' ≡ at + count_or 0 size
    → least code (all_apart past at (drop i sizes)) ≡ total → least next (all_apart past at' (drop (i + 1) sizes)) ≡ total
literals_more past code next at at' sizes i size d total lt item n a so_far =
    ap (λ x. least next (all_apart past x (drop (i + 1) sizes))) a
    ∙ ap (λ x. least x (all_apart past (at + count_or 0 size) (drop (i + 1) sizes))) n
    ∙ least_assoc code (taking_size past at size) (all_apart past (at + count_or 0 size) (drop (i + 1) sizes))
    ∙ ap (λ l. least code (all_apart past at l)) (ap (λ x. x ∷ drop (i + 1) sizes) item ∙ sym (drop_more sizes i d lt))
    ∙ so_far

pub literals_end : (past : List ℕ) (code : Option AsmCode) (at address : ℕ) (sizes : List (Result ℕ AsmCode)) (i : ℕ) → length sizes ≤ i
    → least code (all_apart past at (drop i sizes)) ≡ all_apart past address sizes → code ≡ taking_all past address sizes
literals_end past code at address sizes i ge so_far =
    sym (code_least_none code) ∙ sym (at_drop_all (λ l. least code (all_apart past at l)) sizes i ge) ∙ so_far ∙ all_apart_is past address sizes

-- the address of one literal more
abbrev pub addresses_with : List ℕ → ℕ → List (Result ℕ AsmCode) → List ℕ
addresses_with front at sizes = front ++ addresses_from at (map (count_or 0) sizes)

addresses_cons : (at : ℕ) (size : Result ℕ AsmCode) (sizes : List (Result ℕ AsmCode))
    → addresses_from at (map (count_or 0) (size ∷ sizes)) ≡ at ∷ addresses_from (at + count_or 0 size) (map (count_or 0) sizes)
unfolding addresses_from
addresses_cons at size sizes = refl

pub addresses_more : (front new : List ℕ) (at at' : ℕ) (sizes : List (Result ℕ AsmCode)) (i : ℕ) (size d : Result ℕ AsmCode) (total : List ℕ) → i < length sizes
    → size ≡ get_or sizes i d → new ≡ front ++ at ∷ [] → at' ≡ at + count_or 0 size
    → addresses_with front at (drop i sizes) ≡ total → addresses_with new at' (drop (i + 1) sizes) ≡ total
addresses_more front new at at' sizes i size d total lt item n a so_far =
    ap (λ x. addresses_with new x (drop (i + 1) sizes)) a
    ∙ ap (λ l. addresses_with l (at + count_or 0 size) (drop (i + 1) sizes)) n
    ∙ append_assoc front (at ∷ []) (addresses_from (at + count_or 0 size) (map (count_or 0) (drop (i + 1) sizes)))
    ∙ ap (λ l. front ++ l) (sym (addresses_cons at size (drop (i + 1) sizes)))
    ∙ ap (addresses_with front at) (ap (λ x. x ∷ drop (i + 1) sizes) item ∙ sym (drop_more sizes i d lt))
    ∙ so_far

addresses_none : (at : ℕ) → addresses_from at [] ≡ []
unfolding addresses_from
addresses_none at = refl

pub addresses_end : (front : List ℕ) (at : ℕ) (sizes : List (Result ℕ AsmCode)) (i : ℕ) (total : List ℕ) → length sizes ≤ i
    → addresses_with front at (drop i sizes) ≡ total → front ≡ total
addresses_end front at sizes i total ge so_far =
    sym (append-nil front) ∙ ap (λ l. front ++ l) (sym (addresses_none at)) ∙ sym (at_drop_all (addresses_with front at) sizes i ge) ∙ so_far

pub literals_begin : (past : List ℕ) (at address : ℕ) (sizes : List (Result ℕ AsmCode)) → at ≡ address
    → least None (all_apart past at (drop 0 sizes)) ≡ all_apart past address sizes
literals_begin past at address sizes is = least_none (all_apart past at (drop 0 sizes)) ∙ ap (λ a. all_apart past a sizes) is

-- a line whose labels are new
pub with_labels_stands : (p q : Progress) (s : Layout) (line : Line) → StandsFor p s → are_apart (keys_of s.labels ++ line.labels) ≡ true
    → q.labels.entries ≡ p.labels.entries ++ own p.address line.labels → q.address ≡ p.address → q.addresses.items ≡ p.addresses.items ++ p.address ∷ []
    → q.taken.items ≡ p.taken.items → q.sizes.items ≡ p.sizes.items ++ map (literal_size q.labels.entries p.address) line.literals
    → StandsFor q (with_labels s line)
unfolding with_labels
with_labels_stands p q s line m apart labels address addresses taken sizes =
    let all : q.labels.entries ≡ s.labels ++ own s.address line.labels =
    labels ∙ ap (λ l. l ++ own p.address line.labels) m.labels ∙ ap (λ n. s.labels ++ own n line.labels) m.address in
    record {
      labels = all;
      apart = ap are_apart (keys_more s.labels s.address line.labels) ∙ apart;
      address = address ∙ m.address;
      addresses = addresses ∙ ap (λ l. l ++ p.address ∷ []) m.addresses ∙ ap (λ n. s.addresses ++ n ∷ []) m.address;
      taken = subst (λ l. AreMarks l s.taken) (sym taken) m.taken;
      sizes = sizes ∙ ap (λ l. l ++ map (literal_size q.labels.entries p.address) line.literals) m.sizes
          ∙ ap (λ l. s.sizes ++ map (literal_size l p.address) line.literals) all
          ∙ ap (λ n. s.sizes ++ map (literal_size (s.labels ++ own s.address line.labels) n) line.literals) m.address;
    }

-- a statement of a size
pub with_size_stands : (p q : Progress) (s : Layout) (words : ℕ) → StandsFor p s → q.labels.entries ≡ p.labels.entries → q.address ≡ p.address + words
    → q.addresses.items ≡ p.addresses.items → AreMarks q.taken.items (s.taken ++ addresses_in p.address words)
    → q.sizes.items ≡ p.sizes.items
    → StandsFor q (with_size s (Ok words))
with_size_stands p q s words m labels address addresses taken sizes = record {
  labels = labels ∙ m.labels;
  apart = m.apart;
  address = address ∙ ap (λ n. n + words) m.address;
  addresses = addresses ∙ m.addresses;
  taken = subst (λ n. AreMarks q.taken.items (s.taken ++ addresses_in n words)) m.address taken;
  sizes = sizes ∙ m.sizes;
}

pub apart_nil : are_apart [] ≡ true
unfolding are_apart
apart_nil = refl

pub if_ok_more : {T E : Type 0} (P Q : T → Type 0) → ((x : T) → P x → Q x) → (r : Result T E) → IfOk r P → IfOk r Q
if_ok_more P Q f (Ok x) h = f x h
if_ok_more P Q f (Err e) h = tt

-- a statement that takes no address
stands_still : (p : Progress) (s : Layout) → StandsFor p s → StandsFor p (record s { address = s.address; taken = s.taken ++ [] })
stands_still p s m = record {
  labels = m.labels;
  apart = m.apart;
  address = m.address;
  addresses = m.addresses;
  taken = subst (AreMarks p.taken.items) (sym (append-nil s.taken)) m.taken;
  sizes = m.sizes;
}

pub lays_data : (p q : Progress) (st : Option Statement) (given : Data) (size : Result ℕ AsmCode) (code : Option AsmCode)
    → st ≡ Some (statements.Data given)
    → size ≡ checked_size p.labels.entries p.address given
    → Lays p q (λ s. taking_size s.taken s.address size) (λ s. with_size s size) code → Lays p q (λ s. statement_code s st) (λ s. with_statement s st) code
unfolding statement_code with_statement
lays_data p q st given size code is sized h = λ s m.
    let measured : size ≡ checked_size s.labels s.address given =
    sized ∙ ap (λ l. checked_size l p.address given) m.labels ∙ ap (λ n. checked_size s.labels n given) m.address in
    let R : Option Statement → Type 0 = λ t. (code ≡ statement_code s t) × (code ≡ None → StandsFor q (with_statement s t)) in
    let S : Result ℕ AsmCode → Type 0 = λ z. (code ≡ taking_size s.taken s.address z) × (code ≡ None → StandsFor q (with_size s z)) in
    subst R (sym is) (subst S measured (h s m))

counted : (p : Progress) (s : Layout) (e : List SignedTerm) (r : Result ℕ AsmCode) → StandsFor p s
    → r ≡ checked_count p.labels.entries p.address e
    → r ≡ checked_count s.labels s.address e
counted p s e r m is = is ∙ ap (λ l. checked_count l p.address e) m.labels ∙ ap (λ n. checked_count s.labels n e) m.address

pub lays_loc_not : (p q : Progress) (st : Option Statement) (e : List SignedTerm) (code : AsmCode) → st ≡ Some (statements.Loc e)
    → Err code ≡ checked_count p.labels.entries p.address e
    → Lays p q (λ s. statement_code s st) (λ s. with_statement s st) (Some code)
unfolding statement_code
lays_loc_not p q st e code is wrong = λ s m.
    (ap code_of (counted p s e (Err code) m wrong) ∙ sym (ap (statement_code s) is), λ h. absurd (cc))

pub lays_loc : (p q : Progress) (st : Option Statement) (e : List SignedTerm) (n : ℕ) → st ≡ Some (statements.Loc e)
    → Ok n ≡ checked_count p.labels.entries p.address e
    → q.labels.entries ≡ p.labels.entries → q.address ≡ n → q.addresses.items ≡ p.addresses.items → q.taken.items ≡ p.taken.items → q.sizes.items ≡ p.sizes.items
    → Lays p q (λ s. statement_code s st) (λ s. with_statement s st) None
unfolding statement_code with_statement
lays_loc p q st e n is right labels address addresses taken sizes = λ s m.
    let counts = counted p s e (Ok n) m right in
    let next : StandsFor q (with_statement s (Some (statements.Loc e))) = record {
      labels = labels ∙ m.labels;
      apart = m.apart;
      address = address ∙ ap (count_or s.address) counts;
      addresses = addresses ∙ m.addresses;
      taken = subst (AreMarks q.taken.items) (sym (append-nil s.taken)) (subst (λ l. AreMarks l s.taken) (sym taken) m.taken);
      sizes = sizes ∙ m.sizes;
    } in
    (ap code_of counts ∙ sym (ap (statement_code s) is), λ h. subst (λ t. StandsFor q (with_statement s t)) (sym is) next)

pub lays_radix : (p : Progress) (st : Option Statement) (n : ℕ) (code : Option AsmCode) → st ≡ Some (statements.Radix n)
    → code ≡ code_if (not (nat_le 2 n && nat_le n 10)) DoesNotFit
    → Lays p p (λ s. statement_code s st) (λ s. with_statement s st) code
unfolding statement_code with_statement
lays_radix p st n code is h = λ s m.
    (h ∙ sym (ap (statement_code s) is), λ _. subst (λ t. StandsFor p (with_statement s t)) (sym is) (stands_still p s m))

pub lays_end : (p : Progress) (st : Option Statement) (start : Option (List SignedTerm)) (code : Option AsmCode) → st ≡ Some (statements.End start)
    → ((past : List ℕ) → AreMarks p.taken.items past → code ≡ taking_all past p.address p.sizes.items)
    → Lays p p (λ s. statement_code s st) (λ s. with_statement s st) code
unfolding statement_code with_statement
lays_end p st start code is h = λ s m. (
  h s.taken m.taken ∙ ap (λ n. taking_all s.taken n p.sizes.items) m.address ∙ ap (taking_all s.taken s.address) m.sizes ∙ sym (ap (statement_code s) is),
  λ _. subst (λ t. StandsFor p (with_statement s t)) (sym is) (stands_still p s m),
)

pub lays_title : (p : Progress) (st : Option Statement) → st ≡ Some statements.Title → Lays p p (λ s. statement_code s st) (λ s. with_statement s st) None
unfolding statement_code with_statement
lays_title p st is = λ s m.
    (sym (ap (statement_code s) is), λ _. subst (λ t. StandsFor p (with_statement s t)) (sym is) (stands_still p s m))

pub lays_nothing : (p : Progress) (st : Option Statement) → st ≡ None → Lays p p (λ s. statement_code s st) (λ s. with_statement s st) None
unfolding statement_code with_statement
lays_nothing p st is = λ s m.
    (sym (ap (statement_code s) is), λ _. subst (λ t. StandsFor p (with_statement s t)) (sym is) (stands_still p s m))

-- a line with a label that has an address already
pub line_twice : (p q mid : Progress) (line : Line) → ((s : Layout) → StandsFor p s → Defines false s line mid)
    → Lays p q (λ s. line_code s line) (λ s. with_line s line) (Some DefinedTwice)
unfolding line_code
line_twice p q mid line defines = λ s m. (
  sym
      (ap (λ b. cond b (least (labels_code s line) (statement_code (with_labels s line) line.statement)) (Some DefinedTwice))
      (sym (defines s m).0)),
  λ h. absurd (cc),
)

last_none : (a b : Option AsmCode) → least a b ≡ None → b ≡ None
last_none a None h = refl
last_none None (Some b) h = absurd (cc (least_none (Some b)))
last_none (Some a) (Some b) h = absurd (cc (least_some a b))

-- a line whose labels are new
pub line_lays : (p mid q : Progress) (line : Line) (labels own code : Option AsmCode)
    → labels ≡ code_if (not (length line.labels == 0) && not (nat_lt p.address (2 ^ 18))) AddressTooHigh
    → ((s : Layout) → StandsFor p s → Defines true s line mid)
    → Lays mid q (λ s. statement_code s line.statement) (λ s. with_statement s line.statement) own → code ≡ least labels own
    → Lays p q (λ s. line_code s line) (λ s. with_line s line) code
unfolding line_code
line_lays p mid q line labels own code high defines lays is = λ s m.
    let d = defines s m in
    let r = lays (with_labels s line) (d.1 refl) in
    let first : labels ≡ labels_code s line = high ∙ ap (λ n. code_if (not (length line.labels == 0) && not (nat_lt n (2 ^ 18))) AddressTooHigh) m.address in (
      is ∙ ap (λ c. least c own) first ∙ ap (least (labels_code s line)) r.0
          ∙ ap (λ b. cond b (least (labels_code s line) (statement_code (with_labels s line) line.statement)) (Some DefinedTwice)) d.0,
      λ h. r.1 (last_none labels own (sym is ∙ h)),
    )

-- the lines so far are laid out
laid_out-cons : (s : Layout) (number : ℕ) (line : Line) (lines : List Line)
    → laid_out s number (line ∷ lines) ≡ unless_fault number (line_code s line) (laid_out (with_line s line) (number + 1) lines)
unfolding laid_out
laid_out-cons s number line lines = refl

laid_out-nil : (s : Layout) (number : ℕ) → laid_out s number [] ≡ Ok s
unfolding laid_out
laid_out-nil s number = refl

next_line : (s : Layout) (lines : List Line) (i : ℕ) (line d : Line) (code : Option AsmCode) (total : Result Layout Fault)
    → i < length lines → line ≡ get_or lines i d
    → code ≡ line_code s line
    → laid_out s (i + 1) (drop i lines) ≡ total → total ≡ unless_fault (i + 1) code (laid_out (with_line s line) (i + 1 + 1) (drop (i + 1) lines))
next_line s lines i line d code total lt item is so_far =
    sym so_far ∙ ap (laid_out s (i + 1)) (drop_more lines i d lt ∙ ap (λ x. x ∷ drop (i + 1) lines) (sym item))
    ∙ laid_out-cons s (i + 1) line (drop (i + 1) lines)
    ∙ ap (λ c. unless_fault (i + 1) c (laid_out (with_line s line) (i + 1 + 1) (drop (i + 1) lines))) (sym is)

pub line_goes_on : (s : Layout) (lines : List Line) (i : ℕ) (line d : Line) (total : Result Layout Fault) → i < length lines
    → line ≡ get_or lines i d
    → None ≡ line_code s line
    → laid_out s (i + 1) (drop i lines) ≡ total → laid_out (with_line s line) (i + 1 + 1) (drop (i + 1) lines) ≡ total
line_goes_on s lines i line d total lt item is so_far = sym (next_line s lines i line d None total lt item is so_far)

pub line_fails : (s : Layout) (lines : List Line) (i : ℕ) (line d : Line) (code : AsmCode) (total : Result Layout Fault)
    → i < length lines → line ≡ get_or lines i d
    → Some code ≡ line_code s line
    → laid_out s (i + 1) (drop i lines) ≡ total → total ≡ Err (record { line = i + 1; code = code })
line_fails s lines i line d code total lt item is so_far = next_line s lines i line d (Some code) total lt item is so_far

pub lines_done : (s : Layout) (lines : List Line) (i : ℕ) (total : Result Layout Fault) → length lines ≤ i
    → laid_out s (i + 1) (drop i lines) ≡ total
    → total ≡ Ok s
lines_done s lines i total ge so_far = sym so_far ∙ at_drop_all (laid_out s (i + 1)) lines i ge ∙ laid_out-nil s (i + 1)
