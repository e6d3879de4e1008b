-- What a name means, by its operation or its call.
use Rattle.std.proofs.Common.{◌≡◌, ℕ, List, [], ◌∷◌, ◌++◌, map, Bool, true, false, Option, Some, None, ◌+◌, ◌<◌, ◌≤◌, refl, arith}
use Rattle.std.proofs.lemmas.Bool.{and_parts, leb-true}
use Rattle.ka_isa.specs.Tables.{end_before}
use Rattle.std.specs.Str.{bytes_eq}
use Rattle.std.specs.Option.{option_map}
use Rattle.std.specs.Prelude.{if◌then◌else◌, nat_le}
use Rattle.ka_isa.specs.declared.calls.Named.{Named}
use Rattle.ka_isa.specs.declared.calls.Call.{Call}
use Rattle.ka_isa.specs.Operations.{Name, Operation, NamedCall, Meaning, operations, calls, code_in, call_in}
use Rattle.ka_isa.specs.Operations.{operation_meaning, call_meaning, meanings, meaning_in, named_of}

found_first : (b : Bool) (first code : ℕ) (rest : Option ℕ) (m : Option Named) → Some code ≡ (if b then Some first else rest)
    → (Some code ≡ rest → m ≡ Some (operation_meaning code))
    → (if b then Some (operation_meaning first) else m) ≡ Some (operation_meaning code)
found_first true first code rest m h k = let e : code ≡ first = cc in rw e refl
found_first false first code rest m h k = k h

not_found : (b : Bool) (first : ℕ) (rest : Option ℕ) (x m n : Option Named) → None ≡ (if b then Some first else rest)
    → (None ≡ rest → m ≡ n)
    → (if b then x else m) ≡ n
not_found true first rest x m n h k = cc
not_found false first rest x m n h k = k h

mapped : (b : Bool) (call : Call) (m : Option Named) (rest : Option Call) → m ≡ option_map call_meaning rest
    → (if b then Some (call_meaning call) else m) ≡ option_map call_meaning (if b then Some call else rest)
mapped true call m rest h = refl
mapped false call m rest h = h

meaning_of_operation : (os : List Operation) (ms : List Meaning) (name : Name) (code : ℕ) → Some code ≡ code_in os name
    → meaning_in (map (λ o. record { name = o.name; named = operation_meaning o.code }) os ++ ms) name
    ≡ Some (operation_meaning code)
meaning_of_operation [] ms name code h = cc
meaning_of_operation (o ∷ os) ms name code h =
    found_first (bytes_eq o.name name) o.code code (code_in os name) _ h (λ e. meaning_of_operation os ms name code e)

meaning_of_call : (os : List Operation) (cs : List NamedCall) (name : Name) → None ≡ code_in os name
    → meaning_in
    (map (λ o. record { name = o.name; named = operation_meaning o.code }) os
    ++ map (λ c. record { name = c.name; named = call_meaning c.call }) cs) name ≡ option_map call_meaning (call_in cs name)
meaning_of_call [] [] name h = refl
meaning_of_call [] (c ∷ cs) name h = mapped (bytes_eq c.name name) c.call _ (call_in cs name) (meaning_of_call [] cs name h)
meaning_of_call (o ∷ os) cs name h = not_found (bytes_eq o.name name) o.code (code_in os name) _ _ _ h (λ e. meaning_of_call os cs name e)

pub named_of_operation : (name : Name) (code : ℕ) → Some code ≡ code_in operations name → named_of name ≡ Some (operation_meaning code)
unfolding named_of meanings
named_of_operation name code h = meaning_of_operation operations (map (λ c. record { name = c.name; named = call_meaning c.call }) calls) name code h

pub named_of_call : (name : Name) → None ≡ code_in operations name → named_of name ≡ option_map call_meaning (call_in calls name)
unfolding named_of meanings
named_of_call name h = meaning_of_call operations calls name h

-- an operation is a number of nine bits
pub all_below : end_before operations 512 ≡ true
unfolding operations
all_below = refl

below : (os : List Operation) (end code : ℕ) (name : Name) → end_before os end ≡ true → Some code ≡ code_in os name → code < end
below [] end code name h e = cc
below (o ∷ os) end code name h e =
    let parts = and_parts (nat_le (o.code + 1) end) (end_before os end) h in
    first (bytes_eq o.name name) o.code code end (code_in os name) (leb-true (o.code + 1) end parts.0) e (λ r. below os end code name parts.1 r)
  where
    first : (b : Bool) (x code end : ℕ) (rest : Option ℕ) → x + 1 ≤ end → Some code ≡ (if b then Some x else rest)
        → (Some code ≡ rest → code < end)
        → code < end
    first true x code end rest p h k = let e : code ≡ x = cc in omega arith
    first false x code end rest p h k = k h

pub code_below : (name : Name) (code : ℕ) → Some code ≡ code_in operations name → code < 512
code_below name code h = below operations 512 code name all_below h
