-- Words: halves, indexes, instructions and the pseudo-operations that give words (MACRO-10 Assembler Manual; what fits is
-- this project's profile).
use Rattle.std.specs.Prelude.{ℕ, zero, suc, ◌-◌, ◌*◌, ◌^◌, ℤ, pos, negsuc, neg_ℤ, ◌-ℤ◌, int_lt, int_le, Result, Ok, Err}
use Rattle.std.specs.Prelude.{Bool, true, false, ◌||◌, ◌&&◌, not, nat_le, List, [], ◌∷◌, ◌++◌}
use Rattle.std.specs.Prelude.{length, replicate, Option, Some, None, unwrap_or, bit_or, if◌then◌else◌}
use Rattle.word36.specs.Words.{signed_value, left_half, right_half, joined}
use Rattle.ka_isa.specs.declared.calls.Named.{Named}
use Rattle.mac_text.specs.Scan.{word_of}
use Rattle.macro_values.specs.Values.{half_at, halves_sum}
use Rattle.macro_expressions.specs.declared.fault.Stop.{Stop}
use Rattle.macro_expressions.specs.declared.fault.Stop.TheVariants.{Wrong, Beyond}
use Rattle.macro_statements.specs.declared.forms.Meant.{Meant}
use Rattle.macro_statements.specs.declared.forms.Meant.TheVariants.{Operation, Pseudo}
use Rattle.macro_statements.specs.declared.forms.Form.{Form}
use Rattle.macro_statements.specs.declared.forms.Form.TheVariants as forms
use Rattle.macro_expressions.specs.Reading.{◌>>=◌, Reader, or_stop, without, skipped, meets}
use Rattle.macro_expressions.specs.Reading.{eaten, meets_commas, begins_name}
use Rattle.macro_statements.specs.Forms.{built_in}
use Rattle.macro_expressions.specs.Values.{Names, Scope, as_word, as_natural, optional_at}
use Rattle.macro_expansion.specs.Marked.{text_at}

-- ---- what names are at the beginning of a statement

-- what a text begins with, if its first name is no value
abbrev pub meant_at : List ℕ → Option Meant
meant_at text = if begins_name text then built_in (word_of text) else None

-- ---- words

-- the half of a value, or its address: -777777 to 777777 octal
abbrev pub as_half : ℤ → Result ℕ Stop
as_half z = if int_le (negsuc (2 ^ 18 - 2)) z && int_lt z (pos (2 ^ 18)) then Ok (half_at z) else Err Wrong

abbrev pub or_zero : Option ℤ → ℤ
or_zero z = unwrap_or z (pos 0)

-- `@` is bit 13
abbrev pub with_indirect : Bool → ℕ → ℕ
with_indirect indirect w = if indirect then bit_or w (2 ^ 22) else w

abbrev pub halves_of : ℤ → ℤ → Result ℕ Stop
halves_of left right = as_half left >>= λ l. as_half right >>= λ r. Ok (joined l r)

-- the halves of an index are swapped; its right half is a register
abbrev pub index_of : ℕ → Result ℕ Stop
index_of w = if nat_le (right_half w) 15 then Ok (joined (right_half w) (left_half w)) else Err Wrong

-- an index: a word in parentheses. Without one it is 0
unfoldable pub index_at : Scope → Reader ℕ
index_at scope s =
    elim (meets 40 s) [
      | true ↦ do
        value ← scope.inside (eaten 40 s)
        z ← or_stop Beyond value.0
        w ← as_word z
        index ← index_of w
        if meets 41 value.1 then Ok (index, eaten 41 value.1) else Err Beyond
      | false ↦ Ok (0, skipped s)
    ]

-- what comes after the first value of a word
abbrev pub word_behind : Scope → Bool → Option ℤ → Reader (Option ℤ)
word_behind scope indirect first s =
    elim (meets_commas s && not indirect) [
      | true ↦ do
        right ← optional_at scope (without 1 (without 1 (skipped s)))
        w ← halves_of (or_zero first) (or_zero right.0)
        Ok (Some (signed_value w), right.1)
      | false ↦ elim (meets 40 s || indirect) [
        | true ↦ do
          base ← as_word (or_zero first)
          index ← index_at scope s
          Ok (Some (signed_value (with_indirect indirect (halves_sum base index.0))), index.1)
        | false ↦ Ok (first, s)
      ]
    ]

-- word = ["@"] [expr] [ "(" word ")" ] | [expr] ",," [expr]
unfoldable pub word_value_at : Scope → Reader (Option ℤ)
word_value_at scope s = do
  first ← optional_at scope (eaten 64 s)
  word_behind scope (meets 64 s) first.0 first.1

-- ---- instructions

-- whether `@` is there, and the fields of accumulator, index and address as a word
abbrev pub Fields : Type 0
Fields = Bool × ℕ

abbrev pub fields_behind : Scope → Bool → ℤ → Reader Fields
fields_behind scope indirect z s = do
  half ← as_half z
  index ← index_at scope s
  Ok ((indirect, halves_sum half index.0), index.1)

-- address = ["@"] [expr] [ "(" word ")" ]
unfoldable pub address_at : Scope → Reader Fields
address_at scope s = do
  first ← optional_at scope (eaten 64 s)
  fields_behind scope (meets 64 s) (or_zero first.0) first.1

-- an address, if the operation takes one
abbrev pub address_if : Scope → Bool → Reader Fields
address_if scope true s = address_at scope s
address_if scope false s = Ok ((false, 0), s)

-- an address whose value is read, or not
abbrev pub address_behind : Scope → Option ℤ → Reader Fields
address_behind scope None s = address_at scope s
address_behind scope (Some z) s = fields_behind scope false z s

-- a value with a comma after it is the accumulator
abbrev pub operands_behind : Scope → Bool → Option ℤ → Reader Fields
operands_behind scope takes_address first s =
    elim (meets 44 s && not (meets_commas s)) [
      | true ↦ do
        ac ← as_natural 15 (or_zero first)
        address ← address_if scope takes_address (eaten 44 s)
        Ok (((address.0).0, halves_sum (address.0).1 (ac * 2 ^ 23)), address.1)
      | false ↦ elim takes_address [
        | true ↦ address_behind scope first s
        | false ↦ elim first [ None ↦ Ok ((false, 0), s) | Some z ↦ Err Beyond ]
      ]
    ]

abbrev pub operands_at : Scope → Bool → Bool → Reader Fields
operands_at scope true takes_address s = optional_at scope s >>= λ first. operands_behind scope takes_address first.0 first.1
operands_at scope false takes_address s = address_if scope takes_address s

-- instruction = op [ [expr] "," ] address: what is written is added to the operation's word, half by half
unfoldable pub instruction_at : Scope → Named → Reader ℕ
instruction_at scope named s = do
  fields ← operands_at scope named.ac named.addr s
  Ok (with_indirect (fields.0).0 (halves_sum named.word (fields.0).1), fields.1)

-- ---- pseudo-operations that give words

-- words with commas between them, at most n, after those that are read
unfoldable pub elements_at : Scope → ℕ → List ℕ → Reader (List ℕ)
elements_at scope zero words s = Err Beyond
elements_at scope (suc n) words s = do
  value ← word_value_at scope s
  w ← as_word (or_zero value.0)
  elim (meets 44 value.1) [
    | true ↦ elements_at scope n (words ++ w ∷ []) (eaten 44 value.1)
    | false ↦ Ok (words ++ w ∷ [], value.1)
  ]

-- their numbers are in a radix
unfoldable pub elements_in : Scope → ℕ → Reader (List ℕ)
elements_in scope radix s = do
  x ← elements_at scope 2000 [] (record s { radix = radix })
  Ok (x.0, record (x.1) { radix = s.radix })

-- two values with a comma between them
unfoldable pub pair_at : Scope → Reader (ℤ × ℤ)
pair_at scope s = do
  left ← optional_at scope s
  elim (meets 44 left.1) [
    | true ↦ do
      right ← optional_at scope (eaten 44 left.1)
      Ok ((or_zero left.0, or_zero right.0), right.1)
    | false ↦ Err Beyond
  ]

-- left half and right half
unfoldable pub halves_at : Scope → Reader (List ℕ)
halves_at scope s = do
  pair ← pair_at scope s
  w ← halves_of (pair.0).0 (pair.0).1
  Ok (w ∷ [], pair.1)

-- n words less, and the place before the first
unfoldable pub count_at : Scope → Reader (List ℕ)
count_at scope s = do
  pair ← pair_at scope s
  w ← halves_of (neg_ℤ (pair.0).0) ((pair.0).1 -ℤ pos 1)
  Ok (w ∷ [], pair.1)

-- BLOCK n: n words of 0
unfoldable pub block_at : Scope → Reader (List ℕ)
block_at scope s = do
  count ← optional_at scope s
  z ← or_stop Beyond count.0
  n ← as_natural (2 ^ 18) z
  Ok (replicate n 0, count.1)

-- names with which no more brackets are judged
abbrev pub ground_scope : Names → Scope
ground_scope names = record { names = names; inside = λ s. Err Beyond; given = λ s. Err Beyond }

-- the number of words in a literal depends only on what was defined before it
abbrev pub early_scope : Names → Scope
early_scope names = ground_scope (record names { table = [] })

-- the words of a pseudo-operation, if it gives words
abbrev pub form_words : Scope → Form → Reader (List ℕ)
form_words scope forms.Exp s = elements_in scope s.radix s
form_words scope forms.Oct s = elements_in scope 8 s
form_words scope forms.Dec s = elements_in scope 10 s
form_words scope forms.Xwd s = halves_at scope s
form_words scope forms.Iowd s = count_at scope s
form_words scope forms.Block s = block_at (early_scope scope.names) s
form_words scope (forms.Text form) s = text_at form s
form_words scope _ s = Err Beyond

-- ---- statements that give words

-- an instruction
unfoldable pub operation_words : Scope → Named → Reader (List ℕ)
operation_words scope named s = do
  w ← instruction_at scope named s
  Ok (w.0 ∷ [], w.1)

-- after a name: an instruction or a pseudo-operation
abbrev pub meant_words : Scope → Meant → Reader (List ℕ)
meant_words scope (Operation named) s = operation_words scope named s
meant_words scope (Pseudo form) s = form_words scope form s

-- a statement that is a word
unfoldable pub value_words : Scope → Reader (List ℕ)
value_words scope s = do
  value ← word_value_at scope s
  z ← or_stop Beyond value.0
  w ← as_word z
  Ok (w ∷ [], value.1)

abbrev pub words_by : Scope → Option Meant → Reader (List ℕ)
words_by scope None s = value_words scope s
words_by scope (Some meant) s = meant_words scope meant (without (length (word_of s.rest)) s)

-- a statement of a literal
unfoldable pub given_at : Scope → Reader (List ℕ)
given_at scope s = words_by scope (meant_at (skipped s).rest) (skipped s)

-- the one word of a statement; there has to be one
abbrev pub only_word : List ℕ → Result ℕ Stop
only_word [] = Err Wrong
only_word (w ∷ []) = Ok w
only_word (w ∷ more ∷ words) = Err Wrong

-- a statement of one word, as a value
unfoldable pub single_at : Scope → Meant → Reader (Option ℤ)
single_at scope meant s = do
  words ← meant_words scope meant s
  w ← only_word words.0
  Ok (Some (signed_value w), words.1)

abbrev pub inside_by : Scope → Option Meant → Reader (Option ℤ)
inside_by scope None s = word_value_at scope s
inside_by scope (Some meant) s = single_at scope meant (without (length (word_of s.rest)) s)

-- what `< >` and `( )` hold: a value, or a statement of one word
unfoldable pub inside_at : Scope → Reader (Option ℤ)
inside_at scope s = inside_by scope (meant_at (skipped s).rest) (skipped s)

-- ---- brackets

-- names with one more bracket around
abbrev pub deeper_scope : Scope → Scope
deeper_scope deeper = record { names = deeper.names; inside = inside_at deeper; given = given_at deeper }

-- four brackets, one inside another, are judged
unfoldable pub scope_with : Names → Scope
scope_with names = deeper_scope (deeper_scope (deeper_scope (deeper_scope (ground_scope names))))
