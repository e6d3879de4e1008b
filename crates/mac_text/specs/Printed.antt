-- A word as `ka_isa` writes it on a line (ka_isa.specs.Text), and what the grammar reads there.
use Rattle.std.specs.Prelude.{ℕ, ◌*◌, ◌/◌, ◌^◌, ◌==◌, List, [], ◌∷◌}
use Rattle.std.specs.Prelude.{◌++◌, Option, Some, None, if◌then◌else◌}
use Rattle.word36.specs.Words.{left_half, right_half}
use Rattle.ka_isa.specs.declared.Fields.{Fields}
use Rattle.ka_isa.specs.Fields.{fields_of}
use Rattle.ka_isa.specs.Operations.{Name, name_of}
use Rattle.ka_isa.specs.Text.{text_of_word}
use Rattle.mac_text.specs.declared.syntax.Sign.TheVariants.{Plus}
use Rattle.mac_text.specs.declared.syntax.Term.TheVariants.{Number}
use Rattle.mac_text.specs.declared.syntax.SignedTerm.{SignedTerm}
use Rattle.mac_text.specs.declared.syntax.Instruction.{Instruction}
use Rattle.mac_text.specs.declared.syntax.Data.{Data}
use Rattle.mac_text.specs.declared.syntax.Data.TheVariants as data_of
use Rattle.mac_text.specs.declared.syntax.Statement.TheVariants as statements
use Rattle.mac_text.specs.declared.syntax.Line.{Line}

-- a source of one line: a space, the word, and a line feed
abbrev pub source_of_word : ℕ → List ℕ
source_of_word w = 32 ∷ text_of_word w ++ 10 ∷ []

-- the expression that is a number
abbrev pub number_alone : ℕ → List SignedTerm
number_alone n = record { sign = Plus; term = Number n } ∷ []

-- a register 0 is not written
abbrev pub unless_zero : ℕ → Option (List SignedTerm)
unless_zero n = if n == 0 then None else Some (number_alone n)

-- the operation's word, with the fields beside it
abbrev pub instruction_with : Fields → Instruction
instruction_with f =
    record {
      word = f.op * 2 ^ 27;
      accumulator = unless_zero f.ac;
      operand = record { indirect = f.i; address = Some (number_alone f.y); index = unless_zero f.x };
    }

abbrev pub named_data : Option Name → ℕ → Data
named_data (Some name) w = data_of.Instruction (instruction_with (fields_of w))
named_data None w = data_of.Halves (number_alone (left_half w)) (number_alone (right_half w))

-- a word whose operation has a name is an instruction with its fields, and any other word its two halves
abbrev pub data_of_word : ℕ → Data
data_of_word w = named_data (name_of (w / 2 ^ 27)) w

abbrev pub line_of_word : ℕ → Line
line_of_word w = record { labels = []; statement = Some (statements.Data (data_of_word w)); literals = [] }
