-- The words of what another machine or another monitor has (the tables of `src/words.rt`): names by their numbers, and words by
-- their names.
use Rattle.std.specs.Prelude.{ℕ, ◌+◌, ◌*◌, List, [], ◌∷◌, Option, Some, None, ◌==◌, if◌then◌else◌, map}
use Rattle.std.specs.Borrow.{Bor}
use Rattle.std.specs.Str.{bytes_eq}
use Rattle.left_out.specs.declared.words.TheConstants.{OPERATIONS, CALLS, TERMINAL_CALLS, OTHERS}
use Rattle.left_out.specs.declared.words.Operands.{Operands}
use Rattle.left_out.specs.declared.words.Operands.TheVariants as operands
use Rattle.left_out.specs.declared.words.OtherOperation.{OtherOperation}

-- the rows of a table, as the program has it
abbrev pub rows_of : List (ℕ × Bor (List ℕ)) → List (ℕ × List ℕ)
rows_of rows = map (λ row. (row.0, row.1.now)) rows

-- the name of a number, empty if the table has none
abbrev pub name_in : List (ℕ × List ℕ) → ℕ → List ℕ
name_in [] number = []
name_in (row ∷ rows) number = if row.0 == number then row.1 else name_in rows number

-- the names of operations, of calls of CALLI, and of those of TTCALL
unfoldable pub operation_name : ℕ → List ℕ
operation_name op = name_in (map (λ row. (row.0, row.1.now)) OPERATIONS) op

unfoldable pub call_name : ℕ → List ℕ
call_name number = name_in (map (λ row. (row.0, row.1.now)) CALLS) number

unfoldable pub terminal_name : ℕ → List ℕ
terminal_name ac = name_in (map (λ row. (row.0, row.1.now)) TERMINAL_CALLS) ac

-- a CALLI has a name by its address, a TTCALL by its AC field
abbrev pub name_of : ℕ → ℕ → ℕ → List ℕ
name_of op ac address = if op == 0o47 then call_name address else if op == 0o51 then terminal_name ac else operation_name op

-- the number of the first row of a name
abbrev pub number_in : List (ℕ × List ℕ) → List ℕ → Option ℕ
number_in [] name = None
number_in (row ∷ rows) name = if bytes_eq row.1 name then Some row.0 else number_in rows name

-- what the first row of a name says, in a table of words
abbrev pub others_of : List (Bor (List ℕ) × ℕ × Operands) → List (List ℕ × OtherOperation)
others_of rows = map (λ row. (row.0.now, record { word = row.1; operands = row.2 })) rows

abbrev pub other_in : List (List ℕ × OtherOperation) → List ℕ → Option OtherOperation
other_in [] name = None
other_in (row ∷ rows) name = if bytes_eq row.0 name then Some row.1 else other_in rows name

-- an operation by its code, a call of CALLI by its address, a call of TTCALL by its AC field
abbrev pub operation_word : ℕ → OtherOperation
operation_word op = record { word = op * 0o1000000000; operands = operands.Full }

abbrev pub call_word : ℕ → OtherOperation
call_word number = record { word = 0o47000000000 + number; operands = operands.Accumulator }

abbrev pub terminal_word : ℕ → OtherOperation
terminal_word ac = record { word = 0o51000000000 + ac * 0o40000000; operands = operands.Address }

-- what a name gives: a row of one of the tables
abbrev pub first_of : Option ℕ → (ℕ → OtherOperation) → Option OtherOperation → Option OtherOperation
first_of None made others = others
first_of (Some number) made others = Some (made number)

unfoldable pub other_of : List ℕ → Option OtherOperation
other_of name =
    first_of (number_in (map (λ row. (row.0, row.1.now)) OPERATIONS) name) operation_word
    (first_of (number_in (map (λ row. (row.0, row.1.now)) CALLS) name) call_word
    (first_of (number_in (map (λ row. (row.0, row.1.now)) TERMINAL_CALLS) name) terminal_word
    (other_in (map (λ row. (row.0.now, record { word = row.1; operands = row.2 })) OTHERS) name)))
