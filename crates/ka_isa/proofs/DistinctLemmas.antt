-- No two operations and calls have one name. The tests are computed once, over all of them.
use Rattle.std.proofs.Common.{◌≡◌, ◌≢◌, ℕ, zero, suc, ◌<◌, List, [], ◌∷◌, length, map, get_or, Bool, true, false}
use Rattle.std.proofs.Common.{not, ◌&&◌, Option, Some, None, refl, sym, ap, ◌∙◌, arith}
use Rattle.std.specs.Prelude.{AllPairs, if◌then◌else◌, ◌==◌}
use Rattle.std.specs.Str.{bytes_eq}
use Rattle.std.specs.List.{list_all, list_any}
use Rattle.std.specs.Option.{option_map}
use Rattle.std.proofs.lemmas.Bool.{and_parts, both_ways, not-true, eqb-true, false≢true}
use Rattle.std.proofs.lemmas.List.{get_or-map, length-map}
use Rattle.std.proofs.lemmas.List.Folds.{list_any_at}
use Rattle.std.proofs.lemmas.Slice.Eq.{bytes_eq-Decides}
use Rattle.ka_isa.specs.Operations.{Name, Operation, Meaning, operations, calls, name_in, name_of, code_in, operation_meaning, meanings, named_of}
use Rattle.ka_isa.specs.Tables.{is_code}
use Rattle.ka_isa.proofs.MeaningLemmas.{named_of_operation}

-- no name stands again behind itself
abbrev are_distinct : List Name → Bool
are_distinct [] = true
are_distinct (name ∷ names) = not (list_any (bytes_eq name) names) && are_distinct names

all_distinct : are_distinct (map (λ m. m.name) meanings) ≡ true
unfolding meanings operations calls
all_distinct = refl

pairs : (ms : List Meaning) → are_distinct (map (λ m. m.name) ms) ≡ true → AllPairs (λ one other. one.name ≢ other.name) ms
pairs [] h i j d p q e = absurd (omega arith)
pairs (m ∷ ms) h zero zero d p q e = absurd (omega arith)
pairs (m ∷ ms) h zero (suc j) d p q e =
    let parts = and_parts (not (list_any (bytes_eq m.name) (map (λ m. m.name) ms))) (are_distinct (map (λ m. m.name) ms)) h in
    let below : j < length ms = omega arith in
    let read = get_or-map (λ m. m.name) ms j d [] below in
    let same : bytes_eq m.name (get_or (map (λ m. m.name) ms) j []) ≡ true = (bytes_eq-Decides _ _).1 (e ∙ sym read) in
    both_ways _ (not-true _ parts.0) (list_any_at (bytes_eq m.name) (map (λ m. m.name) ms) j [] (omega (arith, length-map ms (λ m. m.name))) same)
pairs (m ∷ ms) h (suc i) zero d p q e = absurd (omega arith)
pairs (m ∷ ms) h (suc i) (suc j) d p q e =
    pairs ms (and_parts (not (list_any (bytes_eq m.name) (map (λ m. m.name) ms))) (are_distinct (map (λ m. m.name) ms)) h).1 i j d (omega arith) (omega arith) e

pub distinct_meanings : AllPairs (λ one other. one.name ≢ other.name) meanings
distinct_meanings = pairs meanings all_distinct

-- each operation is found by its name
all_found : list_all (λ o. is_code (code_in operations o.name) o.code) operations ≡ true
unfolding operations
all_found = refl

known : (o : Option ℕ) (code : ℕ) → is_code o code ≡ true → Some code ≡ o
known None code h = absurd (false≢true h)
known (Some k) code h = ap Some (sym (eqb-true k code h))

first_or_later : (b : Bool) (o : Operation) (code : ℕ) (name : Name) (later : Option Name) → (o.code == code) ≡ b
    → is_code (code_in operations o.name) o.code ≡ true → (Some name ≡ later → Some code ≡ code_in operations name)
    → Some name ≡ (if b then Some o.name else later)
    → Some code ≡ code_in operations name
first_or_later true o code name later t here rest e =
    let n : name ≡ o.name = cc in
    ap Some (sym (eqb-true o.code code t)) ∙ known _ o.code here ∙ ap (code_in operations) (sym n)
first_or_later false o code name later t here rest e = rest e

found : (os : List Operation) (code : ℕ) (name : Name) → list_all (λ o. is_code (code_in operations o.name) o.code) os ≡ true
    → Some name ≡ name_in os code
    → Some code ≡ code_in operations name
found [] code name h e = cc
found (o ∷ os) code name h e =
    let parts = and_parts (is_code (code_in operations o.name) o.code) (list_all (λ o. is_code (code_in operations o.name) o.code) os) h in
    first_or_later (o.code == code) o code name (name_in os code) refl parts.0 (λ later. found os code name parts.1 later) e

pub named_of_name : (code : ℕ) (name : Name) → Some name ≡ name_of code → named_of name ≡ Some (operation_meaning code)
unfolding name_of
named_of_name code name e = named_of_operation name code (found operations code name all_found e)

-- what a name means, of an operation that may have none
pub named_of_name_of : (code : ℕ) (name : Name) (r : Option Name) → r ≡ name_of code → r ≡ Some name
    → named_of name ≡ option_map (λ _. operation_meaning code) (name_of code)
named_of_name_of code name r e s = named_of_name code name (sym s ∙ e) ∙ ap (option_map (λ _. operation_meaning code)) (sym s ∙ e)
