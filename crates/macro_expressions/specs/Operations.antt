-- The operations that names stand for (MACRO-10 Assembler Manual).
use Rattle.std.specs.Prelude.{ℕ, ◌^◌, ◌/◌, ◌==◌, true, not, List, [], ◌∷◌, map, Option, Some, None, if◌then◌else◌, codes}
use Rattle.std.specs.Option.{option_map}
use Rattle.std.specs.Borrow.{Bor}
use Rattle.std.specs.Str.{bytes_eq}
use Rattle.ka_isa.specs.declared.calls.Named.{Named}
use Rattle.ka_isa.specs.Operations.{named_of}
use Rattle.mac_text.specs.Names.{folded}

-- the rows of a table of the program
abbrev pub rows_of : {X : Type 0} → List (Bor (List ℕ) × X) → List (List ℕ × X)
rows_of rows = map (λ row. (row.0.now, row.1)) rows

-- what the first row of a name says
abbrev pub found_in : {X : Type 0} → List (List ℕ × X) → List ℕ → Option X
found_in [] name = None
found_in (row ∷ rows) name = if bytes_eq row.0 name then Some row.1 else found_in rows name

-- the operations that have other names than those of the processor's manual, and JFCL with the flags that it tests
unfoldable pub other_words : List (List ℕ × ℕ)
other_words =
    (codes "Z", 0) ∷ (codes "OR", 0o434000000000) ∷ (codes "ORI", 0o435000000000) ∷ (codes "ORM", 0o436000000000) ∷ (codes "ORB", 0o437000000000)
    ∷ (codes "CLEAR", 0o400000000000) ∷ (codes "CLEARI", 0o401000000000) ∷ (codes "CLEARM", 0o402000000000) ∷ (codes "CLEARB", 0o403000000000)
    ∷ (codes "JOV", 0o255400000000) ∷ (codes "JCRY", 0o255300000000) ∷ (codes "JCRY0", 0o255200000000) ∷ (codes "JCRY1", 0o255100000000) ∷ []

-- JFCL takes no accumulator where the name says the flags
abbrev pub other_named : ℕ → Named
other_named word = record { word = word; ac = not (word / 2 ^ 27 == 0o255); addr = true }

abbrev pub other_operation : List ℕ → Option Named
other_operation name = option_map other_named (found_in other_words name)

abbrev pub or_named : Option Named → Option Named → Option Named
or_named None other = other
or_named (Some named) other = Some named

-- the operation of a name, of which six characters count
unfoldable pub operation_of : List ℕ → Option Named
operation_of name = or_named (named_of (folded name)) (other_operation (folded name))
