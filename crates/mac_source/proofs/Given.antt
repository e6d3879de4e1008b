-- What the lines of a source stand for.
use Rattle.std.proofs.Common.{ℕ, ◌*◌, ◌/◌, ◌^◌, ◌==◌, Bool, true, false, List, [], ◌∷◌, Option, Some, None}
use Rattle.word36.specs.Words.{left_half, right_half}
use Rattle.ka_isa.specs.declared.Fields.{Fields}
use Rattle.ka_isa.specs.Fields.{fields_of}
use Rattle.ka_isa.specs.Operations.{Name, name_of}
use Rattle.mac_text.specs.Names.{symbol_of}
use Rattle.mac_text.specs.Printed.{number_alone}
use Rattle.mac_text.specs.declared.syntax.Sign.TheVariants.{Plus}
use Rattle.mac_text.specs.declared.syntax.Term.TheVariants.{Label}
use Rattle.mac_text.specs.declared.syntax.SignedTerm.{SignedTerm}
use Rattle.mac_text.specs.declared.syntax.Instruction.{Instruction}
use Rattle.mac_text.specs.declared.syntax.TextForm.TheVariants.{Asciz}
use Rattle.mac_text.specs.declared.syntax.Data.{Data}
use Rattle.mac_text.specs.declared.syntax.Data.TheVariants as data_of
use Rattle.mac_text.specs.declared.syntax.Statement.TheVariants as statements
use Rattle.mac_text.specs.declared.syntax.Line.{Line}
use Rattle.mac_source.specs.declared.pieces.Piece.{Piece}
use Rattle.mac_source.specs.declared.pieces.Piece.TheVariants as pieces
use Rattle.mac_source.specs.Pieces.{address_of, behind}
use Rattle.mac_source.specs.Sources.{Style, shown, label_text}
use Rattle.mac_source.proofs.LabelTexts.{read_number}

-- the symbol of a address
abbrev pub symbol_at : ℕ → ℕ
symbol_at p = symbol_of (label_text p)

abbrev pub label_alone : ℕ → List SignedTerm
label_alone p = record { sign = Plus; term = Label (symbol_at p) } ∷ []

-- an address, by label or as it is read
abbrev pub address_alone : Bool → ℕ → List SignedTerm
address_alone true y = label_alone y
address_alone false y = number_alone (read_number y)

abbrev pub register_if : Bool → ℕ → Option (List SignedTerm)
register_if true n = None
register_if false n = Some (number_alone (read_number n))

abbrev pub operation_data : (ℕ → Bool) → Fields → Instruction
operation_data marked f =
    record {
      word = f.op * 2 ^ 27;
      accumulator = register_if (f.ac == 0) f.ac;
      operand = record { indirect = f.i; address = Some (address_alone (marked f.y) f.y); index = register_if (f.x == 0) f.x };
    }

abbrev pub data_in : (ℕ → Bool) → Option Name → ℕ → Data
data_in marked (Some name) w = data_of.Instruction (operation_data marked (fields_of w))
data_in marked None w = data_of.Halves (number_alone (read_number (left_half w))) (address_alone (marked (right_half w)) (right_half w))

abbrev pub word_data : (ℕ → Bool) → ℕ → Data
word_data marked w = data_in marked (name_of (w / 2 ^ 27)) w

abbrev pub symbols_if : Bool → ℕ → List ℕ
symbols_if true p = symbol_at p ∷ []
symbols_if false p = []

abbrev pub piece_data : Style → Piece → Data
piece_data style (pieces.Word a w) = word_data (shown style w) w
piece_data style (pieces.Zeros a n) = data_of.Block (number_alone (read_number n))
piece_data style (pieces.Text a text) = data_of.Text Asciz text

abbrev pub piece_given : Style → Piece → Line
piece_given style p =
    record { labels = symbols_if (style.marked (address_of p)) (address_of p); statement = Some (statements.Data (piece_data style p)); literals = [] }

abbrev pub loc_given : ℕ → Line
loc_given p = record { labels = []; statement = Some (statements.Loc (number_alone (read_number p))); literals = [] }

abbrev pub end_given : (ℕ → Bool) → ℕ → Line
end_given marked start = record { labels = []; statement = Some (statements.End (Some (address_alone (marked start) start))); literals = [] }

abbrev pub loc_if : {X : Type 0} → Bool → X → List X → List X
loc_if true x rest = rest
loc_if false x rest = x ∷ rest

-- the lines of pieces, where the address reached is `here`
unfoldable pub lines_given : Style → ℕ → ℕ → List Piece → List Line
lines_given style start here [] = end_given style.marked start ∷ []
lines_given style start here (p ∷ ps) = loc_if (address_of p == here) (loc_given (address_of p)) (piece_given style p ∷ lines_given style start (behind p) ps)
