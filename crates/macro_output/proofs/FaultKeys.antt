-- The faults in the order of their keys, step by step.
use Rattle.std.proofs.Common.{◌≡◌, ◌∙◌, sym, ap, subst, refl, ℕ, ◌+◌, ◌<◌, ◌≤◌, Bool, true, false, ◌&&◌, ◌||◌, List, [], ◌∷◌, ◌++◌, length, take, map, get_or, arith, nat_lt, nat_eq, is_lt, nat_cmp, Ordering, Less, Equal, Greater}
use Rattle.std.specs.Prelude.{All, if◌then◌else◌}
use Rattle.std.specs.List.Sorted.{IsPermutation}
use Rattle.std.specs.Ordering.{ordering_then}
use Rattle.std.proofs.lemmas.List.{take_more, map-append, get_or-map}
use Rattle.std.proofs.lemmas.List.Sorted.{IsPermutation-map, All-permutation}
use Rattle.macro_faults.specs.declared.reports.Report.{Report}
use Rattle.macro_output.specs.declared.reports.FaultKey.{FaultKey}
use Rattle.macro_output.specs.Listings.{InOrder, is_before}

-- the fault of a key
abbrev pub fault_of : List Report → Report → FaultKey → Report
fault_of faults d key = get_or faults key.index d

-- a key has the place of its fault
pub record IsKey (faults : List Report) (d : Report) (key : FaultKey) : Type 0 where
  pub line : key.line ≡ (fault_of faults d key).place.line
  pub column : key.column ≡ (fault_of faults d key).place.column

-- one more key
pub keys-more : (faults : List Report) (keys new : List FaultKey) (key : FaultKey) (index : ℕ) (d : Report)
    → new ≡ keys ++ key ∷ [] → index < length faults → key.index ≡ index → map (fault_of faults d) keys ≡ take index faults
    → map (fault_of faults d) new ≡ take (index + 1) faults
keys-more faults keys new key index d e h same so_far =
    let mapped : map (fault_of faults d) (keys ++ key ∷ []) ≡ map (fault_of faults d) keys ++ fault_of faults d key ∷ [] = map-append (fault_of faults d) keys (key ∷ []) in
    let one : fault_of faults d key ≡ get_or faults index d = ap (λ i. get_or faults i d) same in
    let more : take (index + 1) faults ≡ take index faults ++ get_or faults index d ∷ [] = take_more faults index d h in
    ap (map (fault_of faults d)) e ∙ mapped ∙ ap (λ l. l ++ fault_of faults d key ∷ []) so_far ∙ ap (λ f. take index faults ++ f ∷ []) one ∙ sym more

-- one more fault, that of the next key
pub faults-more : (faults : List Report) (keys : List FaultKey) (sorted new : List Report) (key : FaultKey) (index : ℕ) (d fault : Report)
    → index < length keys → get_or keys index key ≡ key → fault ≡ fault_of faults d key → new ≡ sorted ++ fault ∷ []
    → sorted ≡ map (fault_of faults d) (take index keys) → new ≡ map (fault_of faults d) (take (index + 1) keys)
faults-more faults keys sorted new key index d fault h at is e so_far =
    let more : take (index + 1) keys ≡ take index keys ++ get_or keys index key ∷ [] = take_more keys index key h in
    let mapped : map (fault_of faults d) (take index keys ++ get_or keys index key ∷ []) ≡ map (fault_of faults d) (take index keys) ++ fault_of faults d (get_or keys index key) ∷ []
    = map-append (fault_of faults d) (take index keys) (get_or keys index key ∷ []) in
    e ∙ ap (λ l. l ++ fault ∷ []) so_far ∙ ap (λ f. map (fault_of faults d) (take index keys) ++ f ∷ []) (is ∙ ap (fault_of faults d) (sym at)) ∙ sym (ap (map (fault_of faults d)) more ∙ mapped)

-- a key that is not less than another is not of an earlier place
not-before : (p q r s : Bool) (o : Ordering)
    → is_lt (ordering_then (if p then Less else (if q then Equal else Greater)) (ordering_then (if r then Less else (if s then Equal else Greater)) o)) ≡ false
    → (p || (q && r)) ≡ false
not-before true q r s o h = h
not-before false true true s o h = h
not-before false true false s o h = refl
not-before false false r s o h = refl

before-keys : (faults : List Report) (d : Report) (a b : FaultKey) → IsKey faults d a → IsKey faults d b
    → is_lt (ordering_then (nat_cmp a.line b.line) (ordering_then (nat_cmp a.column b.column) (nat_cmp a.index b.index))) ≡ false
    → is_before (fault_of faults d a) (fault_of faults d b) ≡ false
before-keys faults d a b ka kb h =
    let keyed : (nat_lt a.line b.line || (nat_eq a.line b.line && nat_lt a.column b.column)) ≡ false
    = not-before (nat_lt a.line b.line) (nat_eq a.line b.line) (nat_lt a.column b.column) (nat_eq a.column b.column) (nat_cmp a.index b.index) h in
    subst (λ l. (nat_lt l (fault_of faults d b).place.line || (nat_eq l (fault_of faults d b).place.line && nat_lt (fault_of faults d a).place.column (fault_of faults d b).place.column)) ≡ false) ka.line
    (subst (λ l. (nat_lt a.line l || (nat_eq a.line l && nat_lt (fault_of faults d a).place.column (fault_of faults d b).place.column)) ≡ false) kb.line
    (subst (λ n. (nat_lt a.line b.line || (nat_eq a.line b.line && nat_lt n (fault_of faults d b).place.column)) ≡ false) ka.column
    (subst (λ n. (nat_lt a.line b.line || (nat_eq a.line b.line && nat_lt a.column n)) ≡ false) kb.column keyed)))

-- keys in order
abbrev pub KeysSorted : List FaultKey → Type 0
KeysSorted keys = (k : ℕ) → (e : FaultKey) → 0 ≤ k → k + 1 < length keys
    → is_lt (ordering_then (nat_cmp (get_or keys (k + 1) e).line (get_or keys k e).line) (ordering_then (nat_cmp (get_or keys (k + 1) e).column (get_or keys k e).column)
    (nat_cmp (get_or keys (k + 1) e).index (get_or keys k e).index))) ≡ false

mapped-at : (faults : List Report) (d : Report) (keys : List FaultKey) (e : FaultKey) (sorted : List Report) (k : ℕ) → k < length keys → sorted ≡ map (fault_of faults d) keys
    → get_or sorted k d ≡ fault_of faults d (get_or keys k e)
mapped-at faults d keys e sorted k h is = ap (λ l. get_or l k d) is ∙ get_or-map (fault_of faults d) keys k e d h

ordered : (faults : List Report) (d : Report) (keys : List FaultKey) (sorted : List Report) → KeysSorted keys → All (IsKey faults d) keys
    → sorted ≡ map (fault_of faults d) keys → length sorted ≡ length keys → (k : ℕ) → k + 1 < length sorted
    → is_before (get_or sorted (k + 1) d) (get_or sorted k d) ≡ false
ordered faults d keys sorted in_order are is count k h =
    let e : FaultKey = record { line = 0; column = 0; index = 0 } in
    let within : k + 1 < length keys = omega arith in
    let first : get_or sorted (k + 1) d ≡ fault_of faults d (get_or keys (k + 1) e) = mapped-at faults d keys e sorted (k + 1) within is in
    let second : get_or sorted k d ≡ fault_of faults d (get_or keys k e) = mapped-at faults d keys e sorted k (omega arith) is in
    let keyed : is_before (fault_of faults d (get_or keys (k + 1) e)) (fault_of faults d (get_or keys k e)) ≡ false =
    before-keys faults d (get_or keys (k + 1) e) (get_or keys k e) (are (k + 1) e within) (are k e (omega arith)) (in_order k e (omega arith) within) in
    subst (λ a. is_before a (get_or sorted k d) ≡ false) (sym first) (subst (λ b. is_before (fault_of faults d (get_or keys (k + 1) e)) b ≡ false) (sym second) keyed)

-- the faults of keys that changed places
same-faults : (faults : List Report) (keys after : List FaultKey) (sorted : List Report) → IsPermutation keys after
    → ((d : Report) → map (fault_of faults d) keys ≡ faults) → ((d : Report) → sorted ≡ map (fault_of faults d) after) → length sorted ≡ length faults
    → IsPermutation faults sorted
same-faults [] keys after [] p all is count = record { moves = []; below = tt; is = refl }
same-faults [] keys after (fault ∷ sorted) p all is count = absurd (omega arith)
same-faults (fault ∷ faults) keys after sorted p all is count =
    subst (λ s. IsPermutation (fault ∷ faults) s) (sym (is fault))
    (subst (λ f. IsPermutation f (map (fault_of (fault ∷ faults) fault) after)) (all fault) (IsPermutation-map (fault_of (fault ∷ faults) fault) keys after p))

pub in-order : (faults : List Report) (keys after : List FaultKey) (sorted : List Report) → IsPermutation keys after → KeysSorted after
    → ((d : Report) → map (fault_of faults d) keys ≡ faults) → ((d : Report) → All (IsKey faults d) keys)
    → ((d : Report) → sorted ≡ map (fault_of faults d) after) → length sorted ≡ length after → length sorted ≡ length faults → InOrder faults sorted
in-order faults keys after sorted p in_order all are is as_many count = record {
  same = same-faults faults keys after sorted p all is count;
  in_order = λ k d _ h. ordered faults d after sorted in_order (All-permutation (IsKey faults d) keys after p (are d)) (is d) as_many k h;
}
