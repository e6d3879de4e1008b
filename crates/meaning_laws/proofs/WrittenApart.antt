-- The labels of pieces: each of another symbol, if the names are.
use Rattle.std.proofs.Common.{◌≡◌, ℕ, ℤ, ◌==◌, ◌||◌, not, List, [], ◌∷◌, ◌++◌}
use Rattle.std.proofs.Common.{Bool, true, false, length, map, refl, sym, ap, ◌∙◌, arith, append_assoc}
use Rattle.std.specs.Prelude.{pos, nat_eq, nat_lt, is_some}
use Rattle.std.specs.List.{list_all, list_any}
use Rattle.std.specs.Map.{lookup, keys_of}
use Rattle.std.specs.Ordering.{int_eq}
use Rattle.std.proofs.lemmas.Bool.{and_parts}
use Rattle.std.proofs.lemmas.Bool.Decides.{nat_tests, Decides-int_eq}
use Rattle.std.proofs.lemmas.List.Folds.{list_any-append}
use Rattle.std.proofs.lemmas.Map.Made.{is_some-lookup}
use Rattle.std.proofs.lemmas.Grind.{common_steps}
use Rattle.mac_text.specs.Names.{symbol_of}
use Rattle.mac_layout.specs.Addresses.{are_apart}
use Rattle.macro_expressions.specs.declared.symbols.Defined.{Defined}
use Rattle.macro_meaning.specs.Meaning.{has_value, has_definition, is_settled}
use Rattle.meaning_laws.specs.WrittenSource.{Piece, Placed, joins, with_words, with_piece, joined, labelled, piece_at, with_label}
use Rattle.meaning_laws.specs.WrittenSource.{with_labels, table_of}
use Rattle.meaning_laws.proofs.WrittenPieces.{symbols_of, joined_parts}
use Rattle.meaning_laws.proofs.WrittenLabels.{label_at}

-- ---- lists of numbers of which none is there twice

same_both : (a b : ℕ) → nat_eq a b ≡ nat_eq b a
same_both a b = grind (arith, nat_tests)

not_false : (b : Bool) → not b ≡ true → b ≡ false
not_false true h = absurd (cc)
not_false false h = refl

or_parts : (a b : Bool) → (a || b) ≡ false → (a ≡ false) × (b ≡ false)
or_parts false b h = (refl, h)
or_parts true b h = absurd (cc)

record IsFirst (n : ℕ) (ns : List ℕ) : Type 0 where
  new : list_any (nat_eq n) ns ≡ false
  rest : are_apart ns ≡ true

apart_first : (n : ℕ) (ns : List ℕ) → are_apart (n ∷ ns) ≡ true → IsFirst n ns
unfolding are_apart
apart_first n ns h =
    let parts = and_parts (not (list_any (nat_eq n) ns)) (are_apart ns) h in
    record { new = not_false (list_any (nat_eq n) ns) parts.0; rest = parts.1 }

apart_more : (n : ℕ) (ns : List ℕ) → list_any (nat_eq n) ns ≡ false → are_apart ns ≡ true → are_apart (n ∷ ns) ≡ true
unfolding are_apart
apart_more n ns h k = rw (h, k) refl

-- a number in the middle is not before it
pub middle_new : (ks : List ℕ) (s : ℕ) (ns : List ℕ) → are_apart (ks ++ s ∷ ns) ≡ true → list_any (nat_eq s) ks ≡ false
middle_new [] s ns h = refl
middle_new (k ∷ ks) s ns h =
    let first = apart_first k (ks ++ s ∷ ns) h in
    let parts =
    or_parts (list_any (nat_eq k) ks) (nat_eq k s || list_any (nat_eq k) ns) (sym (list_any-append (nat_eq k) ks (s ∷ ns)) ∙ first.new) in
    let other = or_parts (nat_eq k s) (list_any (nat_eq k) ns) parts.1 in
    rw (same_both s k ∙ other.0, middle_new ks s ns first.rest) refl

-- one more number somewhere in a list
abbrev IsMore : ℕ → List ℕ → List ℕ → Type 0
IsMore s ns more = (k : ℕ) → list_any (nat_eq k) more ≡ (nat_eq k s || list_any (nat_eq k) ns)

exchange : (a b c : Bool) → (a || (b || c)) ≡ (b || (a || c))
exchange true true c = refl
exchange true false c = refl
exchange false true c = refl
exchange false false c = refl

more_behind : (ls : List ℕ) (s : ℕ) (ns more : List ℕ) → IsMore s ns more → IsMore s (ls ++ ns) (ls ++ more)
more_behind [] s ns more is k = is k
more_behind (l ∷ ls) s ns more is k =
    ap (λ b. nat_eq k l || b) (more_behind ls s ns more is k) ∙ exchange (nat_eq k l) (nat_eq k s) (list_any (nat_eq k) (ls ++ ns))

-- such a number, which is not there so far
record IsAdded (s : ℕ) (ns more : List ℕ) : Type 0 where
  is : IsMore s ns more
  apart : are_apart ns ≡ true → list_any (nat_eq s) ns ≡ false → are_apart more ≡ true

added_first : (s : ℕ) (ns : List ℕ) → IsAdded s ns (s ∷ ns)
added_first s ns = record { is = λ k. refl; apart = λ h new. apart_more s ns new h }

added_behind : (ls : List ℕ) (s : ℕ) (ns more : List ℕ) → IsAdded s ns more → IsAdded s (ls ++ ns) (ls ++ more)
added_behind [] s ns more added = added
added_behind (l ∷ ls) s ns more added =
    let later = added_behind ls s ns more added in
    record {
      is = more_behind (l ∷ ls) s ns more added.is;
      apart =
          λ h new.
          let first = apart_first l (ls ++ ns) h in
          let other = or_parts (nat_eq s l) (list_any (nat_eq s) (ls ++ ns)) new in
          apart_more l (ls ++ more) (later.is l ∙ rw (same_both l s ∙ other.0, first.new) refl) (later.apart first.rest other.1);
    }

-- ---- the labels of pieces

added_if : (here before : Bool) (at : Placed) (p : Piece) (ps : List Piece)
    → IsAdded (symbol_of at.name) (symbols_of ps) (symbols_of (with_label at ps))
    → IsAdded (symbol_of at.name) (symbols_of (p ∷ ps))
    (symbols_of (elim here [
      | true ↦ labelled at p ∷ ps
      | false ↦ elim before [ true ↦ piece_at at ∷ p ∷ ps | false ↦ p ∷ with_label at ps ]
    ]))
added_if true before at p ps later = added_first (symbol_of at.name) (symbols_of (p ∷ ps))
added_if false true at p ps later = added_first (symbol_of at.name) (symbols_of (p ∷ ps))
added_if false false at p ps later =
    added_behind (map symbol_of p.labels) (symbol_of at.name) (symbols_of ps) (symbols_of (with_label at ps)) later

label_added : (at : Placed) (ps : List Piece) → IsAdded (symbol_of at.name) (symbols_of ps) (symbols_of (with_label at ps))
label_added at [] = added_first (symbol_of at.name) []
label_added at (p ∷ ps) = added_if (p.place == at.place) (nat_lt at.place p.place) at p ps (label_added at ps)

-- pieces with these labels, if those before have none
pub record AreAdded (names : List ℕ) (all : List ℕ) : Type 0 where
  pub is : (k : ℕ) → list_any (nat_eq k) all ≡ list_any (nat_eq k) names
  pub apart : are_apart all ≡ true

pub labels_added : (names : List Placed) (ps : List Piece) → symbols_of ps ≡ [] → are_apart (map (λ at. symbol_of at.name) names) ≡ true
    → AreAdded (map (λ at. symbol_of at.name) names) (symbols_of (with_labels names ps))
unfolding are_apart
labels_added [] ps none h = record { is = λ k. ap (list_any (nat_eq k)) none; apart = ap are_apart none }
labels_added (at ∷ names) ps none h =
    let first = apart_first (symbol_of at.name) (map (λ at. symbol_of at.name) names) h in
    let later = labels_added names ps none first.rest in
    let added = label_added at (with_labels names ps) in
    record {
      is = λ k. added.is k ∙ ap (λ b. nat_eq k (symbol_of at.name) || b) (later.is k);
      apart = added.apart later.apart (later.is (symbol_of at.name) ∙ first.new);
    }

no_labels : (labels : List (List ℕ)) → length labels ≡ 0 → labels ≡ []
no_labels [] h = refl
no_labels (l ∷ ls) h = absurd (omega (arith, h))

symbols_if : (b : Bool) (p q : Piece) (ps : List Piece) → (b ≡ true → length q.labels ≡ 0)
    → symbols_of (with_words b p q ps) ≡ map symbol_of p.labels ++ symbols_of (q ∷ ps)
symbols_if true p q ps h = ap (λ ls. map symbol_of p.labels ++ (map symbol_of ls ++ symbols_of ps)) (sym (no_labels q.labels (h refl)))
symbols_if false p q ps h = refl

symbols_first : (p : Piece) (ps : List Piece) → symbols_of (with_piece p ps) ≡ map symbol_of p.labels ++ symbols_of ps
symbols_first p [] = refl
symbols_first p (q ∷ ps) = symbols_if (joins p q) p q ps (λ h. (joined_parts p q h).labels)

pub symbols_joined : (ps : List Piece) → symbols_of (joined ps) ≡ symbols_of ps
symbols_joined [] = refl
symbols_joined (p ∷ ps) = symbols_first p (joined ps) ∙ ap (λ l. map symbol_of p.labels ++ l) (symbols_joined ps)

-- ---- the table of symbols

abbrev pub entries_of : List Piece → List (ℕ × Defined)
entries_of [] = []
entries_of (p ∷ ps) = map (label_at p.place) p.labels ++ entries_of ps

abbrev pub values_in : List (ℕ × Defined) → List (ℕ × ℤ)
values_in entries = map (λ entry. (entry.0, (entry.1).value)) entries

values_with : (place : ℕ) (labels : List (List ℕ)) (more : List (ℕ × Defined))
    → values_in (map (label_at place) labels ++ more) ≡ map (λ name. (symbol_of name, pos place)) labels ++ values_in more
values_with place [] more = refl
values_with place (l ∷ ls) more = ap (λ es. (symbol_of l, pos place) ∷ es) (values_with place ls more)

pub values_are : (ps : List Piece) → values_in (entries_of ps) ≡ table_of ps
values_are [] = refl
values_are (p ∷ ps) =
    values_with p.place p.labels (entries_of ps) ∙ ap (λ es. map (λ name. (symbol_of name, pos p.place)) p.labels ++ es) (values_are ps)

keys_with : (place : ℕ) (labels : List (List ℕ)) (more : List (ℕ × Defined))
    → keys_of (map (label_at place) labels ++ more) ≡ map symbol_of labels ++ keys_of more
keys_with place [] more = refl
keys_with place (l ∷ ls) more = ap (λ ks. symbol_of l ∷ ks) (keys_with place ls more)

pub keys_are : (ps : List Piece) → keys_of (entries_of ps) ≡ symbols_of ps
keys_are [] = refl
keys_are (p ∷ ps) = keys_with p.place p.labels (entries_of ps) ∙ ap (λ ks. map symbol_of p.labels ++ ks) (keys_are ps)

equal_number : (a : ℕ) → nat_eq a a ≡ true
equal_number a = grind (arith, common_steps)

equal_value : (z : ℤ) → int_eq z z ≡ true
equal_value z = (Decides-int_eq z z).1 refl

value_later : (e : ℕ × ℤ) (table : List (ℕ × ℤ)) (x : ℕ × Defined) → nat_eq x.0 e.0 ≡ false → has_value (e ∷ table) x ≡ has_value table x
value_later e table x h = rw (h, has_value) refl

values_later : (e : ℕ × ℤ) (table : List (ℕ × ℤ)) (xs : List (ℕ × Defined)) → list_any (nat_eq e.0) (keys_of xs) ≡ false
    → list_all (has_value table) xs ≡ true → list_all (has_value (e ∷ table)) xs ≡ true
values_later e table [] h k = refl
values_later e table (x ∷ xs) h k =
    let other = or_parts (nat_eq e.0 x.0) (list_any (nat_eq e.0) (keys_of xs)) h in
    let parts = and_parts (has_value table x) (list_all (has_value table) xs) k in
    rw (value_later e table x (same_both x.0 e.0 ∙ other.0) ∙ parts.0, values_later e table xs other.1 parts.1) refl

value_first : (x : ℕ × Defined) (table : List (ℕ × ℤ)) → has_value ((x.0, (x.1).value) ∷ table) x ≡ true
value_first x table = rw (equal_number x.0, has_value) (equal_value (x.1).value)

all_values : (xs : List (ℕ × Defined)) → are_apart (keys_of xs) ≡ true → list_all (has_value (values_in xs)) xs ≡ true
all_values [] h = refl
all_values (x ∷ xs) h =
    let first = apart_first x.0 (keys_of xs) h in
    rw (value_first x (values_in xs), values_later (x.0, (x.1).value) (values_in xs) xs first.new (all_values xs first.rest)) refl

defined_by : (xs : List (ℕ × Defined)) (k : ℕ) → list_any (nat_eq k) (keys_of xs) ≡ true → is_some (lookup (nat_eq k) xs) ≡ true
defined_by xs k h = is_some-lookup (nat_eq k) xs ∙ h

or_true : (b : Bool) → (b || true) ≡ true
or_true true = refl
or_true false = refl

key_there : (before : List (ℕ × Defined)) (x : ℕ × Defined) (xs : List (ℕ × Defined))
    → list_any (nat_eq x.0) (keys_of (before ++ x ∷ xs)) ≡ true
key_there [] x xs = rw (equal_number x.0) refl
key_there (e ∷ es) x xs = rw (key_there es x xs) (or_true (nat_eq x.0 e.0))

-- each of these has a definition, if each key is one of the defined ones
all_defined : (xs before : List (ℕ × Defined)) → list_all (has_definition (before ++ xs)) (values_in xs) ≡ true
all_defined [] before = refl
all_defined (x ∷ xs) before =
    let key : list_any (nat_eq x.0) (keys_of (before ++ x ∷ xs)) ≡ true = key_there before x xs in
    let more : before ++ x ∷ xs ≡ (before ++ x ∷ []) ++ xs = sym (append_assoc before (x ∷ []) xs) in
    let later : list_all (has_definition (before ++ x ∷ xs)) (values_in xs) ≡ true =
    ap (λ l. list_all (has_definition l) (values_in xs)) more ∙ all_defined xs (before ++ x ∷ []) in
    rw (defined_by (before ++ x ∷ xs) x.0 key, later) refl

pub all_settled : (xs : List (ℕ × Defined)) → are_apart (keys_of xs) ≡ true → is_settled (values_in xs) xs ≡ true
all_settled xs h = rw (all_values xs h, all_defined xs []) refl
