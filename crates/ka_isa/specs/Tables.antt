-- Tests that the program's tables hold the operations and calls of `Operations`: each is computed once, over the whole table.
use Rattle.std.specs.Prelude.{ℕ, ◌+◌, nat_lt, Bool, true, false, ◌&&◌, ◌==◌, nat_le, List, [], ◌∷◌, length, map, Option, Some, None}
use Rattle.std.specs.List.{list_all, list_any}
use Rattle.std.specs.Borrow.{Bor}
use Rattle.std.specs.Str.{bytes_eq}
use Rattle.ka_isa.specs.Keys.{sixbit_of}
use Rattle.ka_isa.specs.Operations.{Name, Operation, NamedCall, operations, name_in, code_in}
use Rattle.ka_isa.specs.declared.calls.Call.{Call}

-- an entry of a table by codes: empty where the operation has no name
abbrev pub is_entry : Option Name → Name → Bool
is_entry None [] = true
is_entry None (c ∷ cs) = false
is_entry (Some name) [] = false
is_entry (Some name) (c ∷ cs) = bytes_eq (c ∷ cs) name && nat_le (length name) 6

-- the entries are those of the codes from `code` on
abbrev pub are_entries : List Operation → ℕ → List Name → Bool
are_entries os code [] = true
are_entries os code (entry ∷ entries) = is_entry (name_in os code) entry && are_entries os (code + 1) entries

-- no operation has a code from `code` on
abbrev pub end_before : List Operation → ℕ → Bool
end_before [] code = true
end_before (o ∷ os) code = nat_le (o.code + 1) code && end_before os code

unfoldable pub are_by_code : List Name → Bool
are_by_code names = are_entries operations 0 names && end_before operations (length names)

abbrev pub is_code : Option ℕ → ℕ → Bool
is_code None code = false
is_code (Some known) code = known == code

-- each name has the code beside it, and there are as many of both
abbrev pub have_codes : List Operation → List Name → List ℕ → Bool
have_codes os [] [] = true
have_codes os [] (code ∷ codes) = false
have_codes os (name ∷ names) [] = false
have_codes os (name ∷ names) (code ∷ codes) = is_code (code_in os name) code && have_codes os names codes

-- each name has the key beside it, and there are as many of both
abbrev pub have_keys : List Name → List ℕ → Bool
have_keys [] [] = true
have_keys [] (key ∷ keys) = false
have_keys (name ∷ names) [] = false
have_keys (name ∷ names) (key ∷ keys) = sixbit_of name == key && have_keys names keys

-- each key is above the one that stands before it
abbrev pub are_rising : List ℕ → Bool
are_rising [] = true
are_rising (key ∷ []) = true
are_rising (key ∷ next ∷ keys) = nat_lt key next && are_rising (next ∷ keys)

-- each operation's name is one of them
abbrev pub have_names : List Name → List Operation → Bool
have_names names os = list_all (λ o. list_any (bytes_eq o.name) names) os

unfoldable pub are_by_name : List Name → List ℕ → List ℕ → Bool
are_by_name names keys codes = have_codes operations names codes && (have_keys names keys && are_rising keys) && have_names names operations

-- the rows of the program's table of calls
abbrev pub call_rows : List (Bor (List ℕ) × Call) → List NamedCall
call_rows rows = map (λ row. record { name = row.0.now; call = row.1 }) rows
