-- What the tests of the tables say of each entry.
use Rattle.std.proofs.Common.{◌≡◌, ℕ, zero, suc, ◌+◌, ◌<◌, ◌≤◌, List, [], ◌∷◌, length, map, get_or, Bor, true, Option, Some, None, refl, sym, ap, ◌∙◌, arith}
use Rattle.std.specs.Prelude.{nat_le, nat_lt}
use Rattle.std.specs.Str.{bytes_eq}
use Rattle.std.proofs.lemmas.List.{get_or-map, length-map}
use Rattle.std.proofs.lemmas.Bool.{and_parts, ltb-true, leb-true, false≢true, ne_eqb}
use Rattle.std.proofs.lemmas.Slice.Eq.{bytes_eq-Decides}
use Rattle.ka_isa.specs.Operations.{Name, Operation, operations, name_in, name_of}
use Rattle.ka_isa.specs.Tables.{is_entry, are_entries, end_before, are_by_code}

same : (xs ys : List ℕ) → bytes_eq xs ys ≡ true → xs ≡ ys
same xs ys h = (bytes_eq-Decides xs ys).0 h

-- an entry that is not empty is the name, and an empty one says that there is none
pub entry_name : (o : Option Name) (entry : Name) → is_entry o entry ≡ true → 0 < length entry → Some entry ≡ o
entry_name None [] h p = absurd (omega arith)
entry_name None (c ∷ cs) h p = absurd (false≢true h)
entry_name (Some name) [] h p = absurd (false≢true h)
entry_name (Some name) (c ∷ cs) h p = let e = and_parts (bytes_eq (c ∷ cs) name) (nat_le (length name) 6) h in ap Some (same (c ∷ cs) name e.0)

pub entry_short : (o : Option Name) (entry : Name) → is_entry o entry ≡ true → length entry ≤ 6
entry_short None [] h = omega arith
entry_short None (c ∷ cs) h = absurd (false≢true h)
entry_short (Some name) [] h = omega arith
entry_short (Some name) (c ∷ cs) h =
    let e = and_parts (bytes_eq (c ∷ cs) name) (nat_le (length name) 6) h in
    omega (arith, ap length (same (c ∷ cs) name e.0), leb-true (length name) 6 e.1)

pub entry_none : (o : Option Name) (entry : Name) → is_entry o entry ≡ true → length entry ≡ 0 → None ≡ o
entry_none None entry h p = refl
entry_none (Some name) [] h p = absurd (false≢true h)
entry_none (Some name) (c ∷ cs) h p = absurd (omega arith)

within : (os : List Operation) (entries : List Name) (from k : ℕ) → are_entries os from entries ≡ true → k < length entries
    → is_entry (name_in os (from + k)) (get_or entries k []) ≡ true
within os [] from k h p = absurd (omega arith)
within os (e ∷ es) from zero h p = let parts = and_parts (is_entry (name_in os from) e) (are_entries os (from + 1) es) h in
    let z : from + 0 ≡ from = omega arith in rw z parts.0
within os (e ∷ es) from (suc k) h p =
    let parts = and_parts (is_entry (name_in os from) e) (are_entries os (from + 1) es) h in
    let z : from + suc k ≡ from + 1 + k = omega arith in
    rw z (within os es (from + 1) k parts.1 (omega arith))

pub past : (os : List Operation) (end code : ℕ) → end_before os end ≡ true → end ≤ code → name_in os code ≡ None
past [] end code h p = refl
past (o ∷ os) end code h p =
    let parts = and_parts (nat_le (o.code + 1) end) (end_before os end) h in
    let below = leb-true (o.code + 1) end parts.0 in
    rw (ne_eqb o.code code (λ e. omega arith)) (past os end code parts.1 p)

pub is_entry_at : (entries : List Name) (code : ℕ) → are_by_code entries ≡ true → code < length entries
    → is_entry (name_of code) (get_or entries code []) ≡ true
unfolding name_of are_by_code
is_entry_at entries code h p =
    let parts = and_parts (are_entries operations 0 entries) (end_before operations (length entries)) h in
    let w = within operations entries 0 code parts.0 p in
    let z : 0 + code ≡ code = omega arith in
    rw z at w

pub none_past : (entries : List Name) (code : ℕ) → are_by_code entries ≡ true → length entries ≤ code → None ≡ name_of code
unfolding name_of are_by_code
none_past entries code h p =
    let parts = and_parts (are_entries operations 0 entries) (end_before operations (length entries)) h in
    sym (past operations (length entries) code parts.1 p)

-- an entry that was read from a table of texts is that of its code
pub is_entry_read : (table : List (Bor (List ℕ))) (code : ℕ) (entry d : Bor (List ℕ))
    → are_by_code (map (λ name. name.now) table) ≡ true → true ≡ nat_lt code (length table) → entry ≡ get_or table code d
    → is_entry (name_of code) entry.now ≡ true
is_entry_read table code entry d h p e =
    let below = ltb-true code (length table) (sym p) in
    let read = ap (λ name. name.now) e ∙ sym (get_or-map (λ name. name.now) table code d [] below) in
    rw read (is_entry_at _ code h (omega (arith, length-map table (λ name. name.now))))
