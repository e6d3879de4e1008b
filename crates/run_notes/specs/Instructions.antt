-- Instructions as a person reads them: with the names of operations and calls, accumulators by the source's names for them, and
-- addresses by labels (this project's profile, in the form of MACRO-10).
use Rattle.std.specs.Prelude.{ℕ, ◌+◌, ◌-◌, ◌*◌, ◌/◌, ◌%◌, ◌^◌, ◌==◌, ◌&&◌, ◌||◌, ◌++◌, Bool, true, false, not, nat_le, nat_lt, is_none, is_some, if◌then◌else◌}
use Rattle.std.specs.Prelude.{List, [], ◌∷◌, codes, length, map, Option, Some, None}
use Rattle.std.specs.Borrow.{Bor}
use Rattle.std.specs.Fmt.{digits}
use Rattle.ka_isa.specs.Families.{family_of}
use Rattle.ka_isa.specs.Fields.{fields_of}
use Rattle.ka_isa.specs.Operations.{Name, call_meaning, calls, name_of}
use Rattle.ka_isa.specs.Text.{halves_text}
use Rattle.ka_isa.specs.declared.Fields.{Fields}
use Rattle.ka_isa.specs.declared.Family.{Family}
use Rattle.ka_isa.specs.declared.Family.TheVariants as family
use Rattle.left_out.specs.Words.{name_of as left_out_name}
use Rattle.source_labels.specs.Labels.{name_words, nearest_label}
use Rattle.source_labels.specs.Spots.{literals_at, named_number, spot_words}
use Rattle.source_labels.specs.declared.places.NamedNumber.{NamedNumber}
use Rattle.source_labels.specs.declared.places.Places.{Places}
use Rattle.word36.specs.Octal.{word_text}

-- ---- numbers, addresses and accumulators

-- a half word as a signed octal number
abbrev pub signed_words : ℕ → List ℕ
signed_words half =
    if nat_le 0o400000 half && nat_lt half 0o1000000 then codes "-" ++ digits 8 false (0o1000000 - half) else digits 8 false half

-- whether an address is that of an accumulator, and is written as one: it has no label
abbrev pub is_accumulator : Places → ℕ → Bool
is_accumulator places address = nat_lt address 16 && is_none (nearest_label places.labels.items address)

-- whether the program has a label or literals for an address
abbrev pub has_name : Places → ℕ → Bool
has_name places address =
    nat_lt address (2 ^ 18) && (is_some (nearest_label places.labels.items address) || is_some (literals_at places address))

-- an address: by a label or as a literal if the program has one there, else as a signed octal number
abbrev pub reference_words : Places → ℕ → List ℕ
reference_words places address = if has_name places address then spot_words places address else signed_words address

abbrev pub number_by : ℕ → Option NamedNumber → List ℕ
number_by number (Some it) = name_words it.name
number_by number None = digits 8 false number

-- an accumulator: by the name that the source has for it, else by its number in octal
abbrev pub accumulator_words : Places → ℕ → List ℕ
accumulator_words places number = number_by number (named_number places number)

-- ---- what the parts of an instruction are

-- whether the address of an operation is a number in itself, and no address of core: in immediate mode, in shifts and in CALLI
abbrev pub is_immediate : Family → ℕ → Bool
is_immediate family.Calli op = true
is_immediate family.Shift op = true
is_immediate family.Compare op = op / 8 % 2 == 0
is_immediate family.Test op = op / 8 % 2 == 0
is_immediate family.Move op = op % 4 == 1
is_immediate family.Movs op = op % 4 == 1
is_immediate family.Movn op = op % 4 == 1
is_immediate family.Movm op = op % 4 == 1
is_immediate family.Imul op = op % 4 == 1
is_immediate family.Mul op = op % 4 == 1
is_immediate family.Idiv op = op % 4 == 1
is_immediate family.Add op = op % 4 == 1
is_immediate family.Sub op = op % 4 == 1
is_immediate family.Boolean op = op % 4 == 1
is_immediate family.Half op = op % 4 == 1
is_immediate _ op = false

-- whether such a number is a pattern of bits, which has no sign
abbrev pub takes_bits : Family → Bool
takes_bits family.Test = true
takes_bits family.Boolean = true
takes_bits _ = false

-- whether the AC field of an operation is a function or a set of flags, and no accumulator
abbrev pub has_no_accumulator : Family → Bool
has_no_accumulator family.Jrst = true
has_no_accumulator family.Jfcl = true
has_no_accumulator _ = false

-- whether an operation does not look at its address
abbrev pub looks_at_none : Family → ℕ → Bool
looks_at_none family.Popj ac = true
looks_at_none family.Jfcl ac = true
looks_at_none family.Jrst ac = ac == 4
looks_at_none family.Ttcall ac = nat_le 0o11 ac
looks_at_none _ ac = false

-- whether an instruction has only an address, without `@` and without an index
abbrev pub is_direct : Fields → Bool
is_direct f = not f.i && f.x == 0

-- whether the address is left out
abbrev pub has_no_address : Fields → Bool
has_no_address f = looks_at_none (family_of f.op) f.ac && (f.y == 0 && is_direct f)

-- ---- names

-- the name of a number, in a table of numbers with names
abbrev pub name_in : List (ℕ × Name) → ℕ → Option Name
name_in [] number = None
name_in (row ∷ rows) number = if row.0 == number then Some row.1 else name_in rows number

abbrev pub rows_of : List (ℕ × Bor (List ℕ)) → List (ℕ × Name)
rows_of rows = map (λ row. (row.0, row.1.now)) rows

-- the name of the call that a word is, by the table of named calls
unfoldable pub call_name : ℕ → Option Name
call_name word = name_in (map (λ c. ((call_meaning c.call).word, c.name)) calls) word

-- the name of an instruction whose AC field belongs to the name
abbrev pub name_by_ac : Family → Fields → Option Name
name_by_ac family.Ttcall f = call_name (f.op * 2 ^ 27 + f.ac * 2 ^ 23)
name_by_ac family.Jrst f = call_name (f.op * 2 ^ 27 + f.ac * 2 ^ 23)
name_by_ac _ f = None

abbrev pub is_calli : Family → Bool
is_calli family.Calli = true
is_calli _ = false

-- the name of the monitor call that an instruction makes, if it is a CALLI with a number of a call
abbrev pub call_of : Fields → Option Name
call_of f = if is_calli (family_of f.op) && is_direct f then call_name (f.op * 2 ^ 27 + f.y) else None

-- ---- the text

-- an accumulator before an address; none if it is 0
abbrev pub field_words : Places → ℕ → ℕ → List ℕ
field_words places op ac =
    if ac == 0 then []
    else if has_no_accumulator (family_of op) then codes " " ++ (digits 8 false ac ++ codes ",")
    else codes " " ++ (accumulator_words places ac ++ codes ",")

abbrev pub index_words : Places → ℕ → List ℕ
index_words places x = if x == 0 then [] else codes "(" ++ (accumulator_words places x ++ codes ")")

-- an address of core: that of an accumulator by the accumulator's name
abbrev pub core_words : Places → ℕ → List ℕ
core_words places y = if is_accumulator places y then accumulator_words places y else reference_words places y

-- a number of an immediate operation
abbrev pub number_words : Fields → List ℕ
number_words f = if takes_bits (family_of f.op) then digits 8 false f.y else signed_words f.y

-- whether the address of an instruction is a number in itself: after `@` it is an address of core always
abbrev pub is_number : Fields → Bool
is_number f = is_immediate (family_of f.op) f.op && not f.i

-- what is between `@` and the index
abbrev pub place_words : Places → Fields → List ℕ
place_words places f = if is_number f then number_words f else core_words places f.y

abbrev pub address_words : Places → Fields → List ℕ
address_words places f = (if f.i then codes "@" else []) ++ (place_words places f ++ index_words places f.x)

-- an instruction of this name; the accumulator is left out if it is 0 or belongs to the name
abbrev pub operands_words : Places → Name → Fields → ℕ → List ℕ
operands_words places name f ac =
    if has_no_address f then name ++ field_words places f.op ac
    else name ++ (field_words places f.op ac ++ ((if ac == 0 then codes " " else []) ++ address_words places f))

-- by the name to which the AC field belongs, if there is one, or by the name of the operation
abbrev pub words_by_ac : Places → Option Name → Name → Fields → List ℕ
words_by_ac places (Some own) name f = operands_words places own f 0
words_by_ac places None name f = operands_words places name f f.ac

-- a monitor call has no address
abbrev pub words_by_call : Places → Option Name → Name → Fields → List ℕ
words_by_call places (Some call) name f = call ++ field_words places f.op f.ac
words_by_call places None name f = words_by_ac places (name_by_ac (family_of f.op) f) name f

abbrev pub words_by : Places → Option Name → ℕ → List ℕ
words_by places (Some name) w = words_by_call places (call_of (fields_of w)) name (fields_of w)
words_by places None w = halves_text w

-- a word as an instruction; one whose operation has no name as two halves
abbrev pub instruction_words : Places → ℕ → List ℕ
instruction_words places w = words_by places (name_of (fields_of w).op) w

-- ---- instructions that the processor refuses

-- why it refuses one as illegal
abbrev pub illegal_kind : ℕ → List ℕ
illegal_kind op =
    if op == 0 then codes "no operation"
    else if nat_le op 0o37 then codes "an operation of the job's own (LUUO), which is not here"
    else if nat_le 0o40 op && nat_le op 0o77 then codes "a monitor call that is not here"
    else if op == 0o254 then codes "a function of JRST that is not here"
    else if nat_le 0o700 op && nat_le op 0o777 then codes "an instruction of a device, which a job may not use"
    else codes "an operation that is not here"

-- the name that the manuals give one that is not here, if its word alone says which it is
abbrev pub manuals_name : Fields → List ℕ
manuals_name f = if f.op == 0o47 && not (is_direct f) then [] else left_out_name f.op f.ac f.y

-- what is after the word of one that is refused: its kind, and the manuals' name, if there is one
abbrev pub refused_words : ℕ → List ℕ → List ℕ
refused_words op name = illegal_kind op ++ ((if length name == 0 then [] else codes ": ") ++ name)

-- an instruction that is refused as illegal: as a person reads it, if its operation has a name, its word, its kind, and the name
-- that the manuals give it
abbrev pub illegal_words : Places → ℕ → List ℕ
illegal_words places w =
    if is_some (name_of (fields_of w).op)
    then instruction_words places w ++ (codes ", " ++ (word_text w ++ (codes ", " ++ refused_words (fields_of w).op (manuals_name (fields_of w)))))
    else word_text w ++ (codes ", " ++ refused_words (fields_of w).op (manuals_name (fields_of w)))
