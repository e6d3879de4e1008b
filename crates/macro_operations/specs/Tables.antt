-- What a table of names says of one.
use Rattle.std.specs.Prelude.{ℕ, ◌%◌, ◌^◌, List, [], ◌∷◌, Option, Some, None, Bool, true, false, map, take, if◌then◌else◌}
use Rattle.std.specs.Borrow.{Bor}
use Rattle.std.specs.Str.{bytes_eq}
use Rattle.left_out.specs.declared.words.Operands.{Operands}
use Rattle.left_out.specs.declared.words.Operands.TheVariants as operands
use Rattle.left_out.specs.declared.words.OtherOperation.{OtherOperation}
use Rattle.macro_operations.specs.declared.kinds.Operation.{Operation}
use Rattle.macro_operations.specs.declared.kinds.Pseudo.{Pseudo}

-- the rows of a table of the program: of each name the characters that count, and what it stands for
abbrev pub known_rows : List (Bor (List ℕ) × Pseudo) → List (List ℕ × Pseudo)
known_rows rows = map (λ row. (take 6 row.0.now, row.1)) rows

-- what the first row of a name says
abbrev pub found_in : List (List ℕ × Pseudo) → List ℕ → Option Pseudo
found_in [] name = None
found_in (row ∷ rows) name = if bytes_eq row.0 name then Some row.1 else found_in rows name

-- an instruction of a word, with what may follow its name: an accumulator or a device, whether that is a device, an address
abbrev pub instruction_of : ℕ → Bool → Bool → Bool → Operation
instruction_of word accumulator device address = record { word = Some (word % 2 ^ 36); accumulator = accumulator; device = device; address = address }

abbrev pub with_operands : ℕ → Operands → Operation
with_operands word operands.Full = instruction_of word true false true
with_operands word operands.Device = instruction_of word true true true
with_operands word operands.Address = instruction_of word false false true
with_operands word operands.Accumulator = instruction_of word true false false
with_operands word operands.Nothing = instruction_of word false false false

-- an operation or a call of another machine or another monitor, as an instruction
abbrev pub as_operation : OtherOperation → Operation
as_operation other = with_operands other.word other.operands
