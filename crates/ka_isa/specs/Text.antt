-- A word as a line of a program, in octal without leading zeros (this project's profile, in the form of MACRO-10).
use Rattle.std.specs.Prelude.{ℕ, ◌/◌, ◌^◌, ◌==◌, List, [], ◌++◌, codes, Option, Some, None, if◌then◌else◌}
use Rattle.word36.specs.Words.{left_half, right_half}
use Rattle.word36.specs.Octal.{octal_text}
use Rattle.ka_isa.specs.declared.Fields.{Fields}
use Rattle.ka_isa.specs.Fields.{fields_of}
use Rattle.ka_isa.specs.Operations.{Name, name_of}

-- the accumulator and its comma, where it is not 0
abbrev pub accumulator_text : ℕ → List ℕ
accumulator_text ac = if ac == 0 then [] else octal_text ac ++ codes ","

-- the index register in parentheses, where there is one
abbrev pub index_text : ℕ → List ℕ
index_text x = if x == 0 then [] else codes "(" ++ octal_text x ++ codes ")"

-- as `MOVEI 1,5` and `HRRZ 1,@4(17)`
abbrev pub instruction_text : Name → Fields → List ℕ
instruction_text name f =
    name ++ codes " " ++ accumulator_text f.ac ++ (if f.i then codes "@" else []) ++ octal_text f.y ++ index_text f.x

-- as `XWD 777774,140`
abbrev pub halves_text : ℕ → List ℕ
halves_text w = codes "XWD " ++ octal_text (left_half w) ++ codes "," ++ octal_text (right_half w)

-- a word whose operation has a name is an instruction
abbrev pub named_text : Option Name → ℕ → List ℕ
named_text (Some name) w = instruction_text name (fields_of w)
named_text None w = halves_text w

abbrev pub text_of_word : ℕ → List ℕ
text_of_word w = named_text (name_of (w / 2 ^ 27)) w
