-- The example is written so, by computation.
use Rattle.std.proofs.Common.{◌≡◌, [], ◌∷◌, Some, None, true, refl, arith}
use Rattle.std.specs.Prelude.{codes}
use Rattle.ka_isa.specs.Operations.{operations, calls, meanings, named_of, operation_meaning}
use Rattle.mac_text.specs.Keywords.{form_of}
use Rattle.mac_text.specs.Lines.{gives_words}
use Rattle.mac_text.specs.Names.{symbol_of}
use Rattle.mac_text.specs.Written
use Rattle.mac_text.specs.Written.{Blanks, NameText, ExpressionText, OperandsText, StatementText, LiteralText, LineText, IsLine, IsStatement, literal_text}
use Rattle.mac_text.specs.Written.{more_before, items_before, labels_before, more_literals, more_given, items_literals, items_given, line_text, line_given}
use Rattle.mac_text.specs.WrittenExample.{IsExampleWritten, example_text, example_line}
use Rattle.mac_text.specs.declared.syntax.Sign.TheVariants.{Minus}
use Rattle.mac_text.specs.declared.syntax.TextForm.TheVariants.{Asciz}
use Rattle.mac_text.specs.declared.syntax.Data.TheVariants as data_of

abbrev none : Blanks
none = record { text = []; blank = refl }

abbrev one : Blanks
one = record { text = 32 ∷ []; blank = refl }

abbrev asciz : NameText
asciz = record { text = codes "ASCIZ"; characters = refl; names = refl }

literal_legal : IsStatement {radix = 8} true Written.nothing_of
    (Written.Formed asciz
    (Written.Text Asciz (record { before = none; delimiter = 58; text = codes "a]"; firm = refl; within = refl })))
unfolding form_of
literal_legal = (refl, refl)

literal_words : gives_words (data_of.Text Asciz (codes "a]")) ≡ true
unfolding gives_words
literal_words = refl

abbrev text_literal : LiteralText 8
text_literal =
    record {
      before = none;
      statement = Written.Formed asciz (Written.Text Asciz (record { before = none; delimiter = 58; text = codes "a]"; firm = refl; within = refl }));
      behind = one;
      legal = literal_legal;
      given = data_of.Text Asciz (codes "a]");
      is_given = refl;
      words = literal_words;
    }

abbrev operands : OperandsText 8 (LiteralText 8)
operands =
    record {
      accumulator = Some (record {
        register = record { before = one; sign = None; term = Written.Number (record { text = codes "17"; some = omega arith; digits = refl }); more = [] };
        behind = none;
      });
      operand = record {
        indirect = Some none;
        address = Some (record {
          before = none;
          sign = None;
          term = Written.Literal text_literal;
          more = record {
            before = one;
            sign = record { sign = Minus; behind = one };
            term = Written.Marked (record { letter = 100; radix = 10; marks = refl; digits = record { text = codes "9"; some = omega arith; digits = refl } });
          } ∷ [];
        });
        index = Some (record {
          before = none;
          register = record { before = none; sign = None; term = Written.Label (record { text = codes "X"; characters = refl; names = refl }); more = [] };
          behind = none;
        });
      };
    }

abbrev line : LineText 8
line =
    record {
      labels = record { before = none; name = record { text = codes "loop"; characters = refl; names = refl } } ∷ [];
      before = one;
      statement = Some (Written.Instruction (record { text = codes "Move"; characters = refl; names = refl }) (operation_meaning 0o200) operands);
      behind = one;
      comment = Some (codes " go on");
    }

legal : IsLine line
unfolding form_of operations calls meanings named_of more_before labels_before
legal = record { statement = (refl, refl, refl, refl); ascii = refl }

text : line_text line ≡ example_text
unfolding more_before labels_before
text = refl

given : line_given line ≡ example_line
unfolding symbol_of more_literals more_given
given = refl

pub example_is_written : IsExampleWritten
example_is_written = record { line = line; legal = legal; text = text; given = given }
