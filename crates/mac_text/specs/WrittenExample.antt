-- A line as it may be written, and what it stands for, worked by hand.
use Rattle.std.specs.Prelude.{◌≡◌, ℕ, ◌*◌, ◌^◌, true, List, [], ◌∷◌, Some, codes}
use Rattle.mac_text.specs.Names.{symbol_of}
use Rattle.mac_text.specs.Written.{LineText, IsLine, line_text, line_given}
use Rattle.mac_text.specs.declared.syntax.Sign.TheVariants.{Plus, Minus}
use Rattle.mac_text.specs.declared.syntax.Term.TheVariants as terms
use Rattle.mac_text.specs.declared.syntax.TextForm.TheVariants.{Asciz}
use Rattle.mac_text.specs.declared.syntax.Data.TheVariants as data_of
use Rattle.mac_text.specs.declared.syntax.Statement.TheVariants as statements
use Rattle.mac_text.specs.declared.syntax.Line.{Line}

abbrev pub example_text : List ℕ
example_text = codes "loop: Move 17,@[ASCIZ:a]: ] - ^d9(X) ; go on"

-- MOVE is 200 octal; the literal is the first of the line, and colons delimit its text
abbrev pub example_line : Line
example_line =
    record {
      labels = symbol_of (codes "LOOP") ∷ [];
      statement = Some (statements.Data (data_of.Instruction (record {
        word = 0o200 * 2 ^ 27;
        accumulator = Some (record { sign = Plus; term = terms.Number 0o17 } ∷ []);
        operand = record {
          indirect = true;
          address = Some (record { sign = Plus; term = terms.Literal 0 } ∷ record { sign = Minus; term = terms.Number 9 } ∷ []);
          index = Some (record { sign = Plus; term = terms.Label (symbol_of (codes "x")) } ∷ []);
        };
      })));
      literals = data_of.Text Asciz (codes "a]") ∷ [];
    }

-- the text is one way to write the line
pub record IsExampleWritten : Type 0 where
  pub line : LineText 8
  pub legal : IsLine line
  pub text : line_text line ≡ example_text
  pub given : line_given line ≡ example_line
