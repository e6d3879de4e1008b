-- Lines as they may be written (MACRO-10 Assembler Manual, this project's profile): of each part the characters and the
-- blanks that a writer chose, its text before what stands behind it, and what it stands for.
use Rattle.std.specs.Prelude.{◌≡◌, ℕ, ◌<◌, Bool, true, false, ◌==◌, ◌||◌, ◌&&◌, not, is_none, is_some, List, []}
use Rattle.std.specs.Prelude.{◌∷◌, ◌++◌, length, map, Option, Some, None, option_map}
use Rattle.std.specs.List.{list_all}
use Rattle.whole_numbers.specs.Numerals.{digits_value}
use Rattle.ka_isa.specs.Operations.{named_of}
use Rattle.ka_isa.specs.declared.calls.Named.{Named}
use Rattle.mac_text.specs.Characters.{is_blank, is_name_character}
use Rattle.mac_text.specs.Names.{is_name, folded, symbol_of}
use Rattle.mac_text.specs.Numbers.{is_digit_of}
use Rattle.mac_text.specs.Scan.{is_title_character}
use Rattle.mac_text.specs.Expressions.{radix_of_mark}
use Rattle.mac_text.specs.Keywords.{form_of}
use Rattle.mac_text.specs.Lines.{is_ascii, gives_words}
use Rattle.mac_text.specs.declared.keyword.Form.{Form}
use Rattle.mac_text.specs.declared.keyword.Form.TheVariants as forms
use Rattle.mac_text.specs.declared.syntax.Sign.{Sign}
use Rattle.mac_text.specs.declared.syntax.Sign.TheVariants.{Plus, Minus}
use Rattle.mac_text.specs.declared.syntax.Term.{Term}
use Rattle.mac_text.specs.declared.syntax.Term.TheVariants as terms
use Rattle.mac_text.specs.declared.syntax.SignedTerm.{SignedTerm}
use Rattle.mac_text.specs.declared.syntax.Operand.{Operand}
use Rattle.mac_text.specs.declared.syntax.TextForm.{TextForm}
use Rattle.mac_text.specs.declared.syntax.Data.{Data}
use Rattle.mac_text.specs.declared.syntax.Data.TheVariants as data_of
use Rattle.mac_text.specs.declared.syntax.Statement.{Statement}
use Rattle.mac_text.specs.declared.syntax.Statement.TheVariants as statements
use Rattle.mac_text.specs.declared.syntax.Line.{Line}

-- ---- blanks, names and numbers

-- any number of blanks, also none
pub record Blanks : Type 0 where
  pub text : List ℕ
  pub blank : list_all is_blank text ≡ true

-- a name, of any length and in either case
pub record NameText : Type 0 where
  pub text : List ℕ
  pub characters : list_all is_name_character text ≡ true
  pub names : is_name text ≡ true

-- at least one digit of the radix
pub record DigitsText (radix : ℕ) : Type 0 where
  pub text : List ℕ
  pub some : 0 < length text
  pub digits : list_all (is_digit_of radix) text ≡ true

-- D or O and digits of that radix
pub record MarkedText : Type 0 where
  pub letter : ℕ
  pub radix : ℕ
  pub marks : radix_of_mark (Some letter) ≡ Some radix
  pub digits : DigitsText radix

abbrev pub marked_before : MarkedText → List ℕ → List ℕ
marked_before m rest = 94 ∷ m.letter ∷ (m.digits.text ++ rest)

abbrev pub marked_number : MarkedText → ℕ
marked_number m = digits_value m.radix m.digits.text

-- a number of RADIX or POINT: decimal digits, or a marked number
pub data NumberText : Type 0 where
  Decimal : Blanks → DigitsText 10 → NumberText
  Marked : Blanks → MarkedText → NumberText

abbrev pub number_before : NumberText → List ℕ → List ℕ
number_before (Decimal before digits) rest = before.text ++ (digits.text ++ rest)
number_before (Marked before m) rest = before.text ++ marked_before m rest

abbrev pub number_given : NumberText → ℕ
number_given (Decimal before digits) = digits_value 10 digits.text
number_given (Marked before m) = marked_number m

-- the text behind a name begins with no character of a name; on a line it does not begin with a colon either, which
-- would make the name a label, while no label stands in a literal
abbrev pub parts_name : Bool → List ℕ → Bool
parts_name in_literal [] = true
parts_name in_literal (c ∷ cs) = not (is_name_character c) && (not (c == 58) || in_literal)

-- nothing, or the part
abbrev pub before_if : {X : Type 0} → (X → List ℕ → List ℕ) → Option X → List ℕ → List ℕ
before_if before None rest = rest
before_if before (Some x) rest = before x rest

-- ---- expressions

-- a term, where L is what may stand in a literal
pub data TermText (radix : ℕ) (L : Type 0) : Type 0 where
  Number : DigitsText radix → TermText radix L
  Marked : MarkedText → TermText radix L
  Label : NameText → TermText radix L
  Point : TermText radix L
  Literal : L → TermText radix L

-- a sign and the blanks behind it
pub record SignText : Type 0 where
  pub sign : Sign
  pub behind : Blanks

-- a further term behind its sign
pub record MoreText (radix : ℕ) (L : Type 0) : Type 0 where
  pub before : Blanks
  pub sign : SignText
  pub term : TermText radix L

-- a sign or none, and terms joined by signs
pub record ExpressionText (radix : ℕ) (L : Type 0) : Type 0 where
  pub before : Blanks
  pub sign : Option SignText
  pub term : TermText radix L
  pub more : List (MoreText radix L)

abbrev pub sign_character : Sign → ℕ
sign_character Plus = 43
sign_character Minus = 45

abbrev pub sign_before : SignText → List ℕ → List ℕ
sign_before s rest = sign_character s.sign ∷ (s.behind.text ++ rest)

abbrev pub sign_given : Option SignText → Sign
sign_given None = Plus
sign_given (Some s) = s.sign

-- ---- operands

-- `(expression)`
pub record IndexText (radix : ℕ) (L : Type 0) : Type 0 where
  pub before : Blanks
  pub register : ExpressionText radix L
  pub behind : Blanks

-- `[@][expression][(expression)]`
pub record OperandText (radix : ℕ) (L : Type 0) : Type 0 where
  pub indirect : Option Blanks
  pub address : Option (ExpressionText radix L)
  pub index : Option (IndexText radix L)

-- an expression with a comma behind it
pub record AccumulatorText (radix : ℕ) (L : Type 0) : Type 0 where
  pub register : ExpressionText radix L
  pub behind : Blanks

pub record OperandsText (radix : ℕ) (L : Type 0) : Type 0 where
  pub accumulator : Option (AccumulatorText radix L)
  pub operand : OperandText radix L

-- an accumulator and an address are written only where the name allows them
abbrev pub allows : {radix : ℕ} {L : Type 0} → Named → OperandsText radix L → Bool
allows named o =
    (named.ac || is_none o.accumulator)
    && (named.addr || (not (is_some o.operand.indirect) && (is_none o.operand.address && is_none o.operand.index)))

-- ---- what stands behind the name of a form

-- two expressions with a comma between them
pub record PairText (radix : ℕ) (L : Type 0) : Type 0 where
  pub left : ExpressionText radix L
  pub behind : Blanks
  pub right : ExpressionText radix L

-- a further expression behind its comma
pub record ItemText (radix : ℕ) (L : Type 0) : Type 0 where
  pub before : Blanks
  pub value : ExpressionText radix L

-- a position behind its comma
pub record PositionText : Type 0 where
  pub before : Blanks
  pub number : NumberText

-- `size,operand[,position]`
pub record PointText (radix : ℕ) (L : Type 0) : Type 0 where
  pub size : NumberText
  pub behind : Blanks
  pub operand : OperandText radix L
  pub position : Option PositionText

-- a text between two characters that are equal and stand nowhere in it; the first is no blank
pub record QuotedText : Type 0 where
  pub before : Blanks
  pub delimiter : ℕ
  pub text : List ℕ
  pub firm : is_blank delimiter ≡ false
  pub within : list_all (λ c. not (c == delimiter)) text ≡ true

-- anything but a semicolon
pub record TitleText : Type 0 where
  pub text : List ℕ
  pub within : list_all is_title_character text ≡ true

pub data FormText (radix : ℕ) (L : Type 0) : Type 0 where
  Xwd : PairText radix L → FormText radix L
  Iowd : PairText radix L → FormText radix L
  Exp : ExpressionText radix L → List (ItemText radix L) → FormText radix L
  Point : PointText radix L → FormText radix L
  Text : TextForm → QuotedText → FormText radix L
  Block : ExpressionText radix L → FormText radix L
  Loc : ExpressionText radix L → FormText radix L
  End : Option (ExpressionText radix L) → FormText radix L
  Radix : NumberText → FormText radix L
  Title : TitleText → FormText radix L

abbrev pub form_written : {radix : ℕ} {L : Type 0} → FormText radix L → Form
form_written (Xwd p) = forms.Xwd
form_written (Iowd p) = forms.Iowd
form_written (Exp e more) = forms.Exp
form_written (Point p) = forms.Point
form_written (Text form q) = forms.Text form
form_written (Block e) = forms.Block
form_written (Loc e) = forms.Loc
form_written (End e) = forms.End
form_written (Radix n) = forms.Radix
form_written (Title t) = forms.Title

-- ---- texts

abbrev pub indirect_before : Blanks → List ℕ → List ℕ
indirect_before before rest = before.text ++ 64 ∷ rest

abbrev pub position_before : PositionText → List ℕ → List ℕ
position_before p rest = p.before.text ++ 44 ∷ number_before p.number rest

abbrev pub quoted_before : QuotedText → List ℕ → List ℕ
quoted_before q rest = q.before.text ++ q.delimiter ∷ (q.text ++ q.delimiter ∷ rest)

-- each part before what stands behind it, where text_of are the characters of what stands in a literal
module _ {radix : ℕ} {L : Type 0} (text_of : L → List ℕ) where
  abbrev pub term_before : TermText radix L → List ℕ → List ℕ
  term_before (Number digits) rest = digits.text ++ rest
  term_before (Marked m) rest = marked_before m rest
  term_before (Label name) rest = name.text ++ rest
  term_before Point rest = 46 ∷ rest
  term_before (Literal l) rest = 91 ∷ (text_of l ++ 93 ∷ rest)

  unfoldable pub more_before : List (MoreText radix L) → List ℕ → List ℕ
  more_before [] rest = rest
  more_before (m ∷ ms) rest = m.before.text ++ sign_before m.sign (term_before m.term (more_before ms rest))

  abbrev pub expression_before : ExpressionText radix L → List ℕ → List ℕ
  expression_before e rest = e.before.text ++ before_if sign_before e.sign (term_before e.term (more_before e.more rest))

  abbrev pub index_before : IndexText radix L → List ℕ → List ℕ
  index_before x rest = x.before.text ++ 40 ∷ expression_before x.register (x.behind.text ++ 41 ∷ rest)

  abbrev pub operand_before : OperandText radix L → List ℕ → List ℕ
  operand_before o rest = before_if indirect_before o.indirect (before_if expression_before o.address (before_if index_before o.index rest))

  abbrev pub accumulator_before : AccumulatorText radix L → List ℕ → List ℕ
  accumulator_before a rest = expression_before a.register (a.behind.text ++ 44 ∷ rest)

  abbrev pub operands_before : OperandsText radix L → List ℕ → List ℕ
  operands_before o rest = before_if accumulator_before o.accumulator (operand_before o.operand rest)

  abbrev pub pair_before : PairText radix L → List ℕ → List ℕ
  pair_before p rest = expression_before p.left (p.behind.text ++ 44 ∷ expression_before p.right rest)

  unfoldable pub items_before : List (ItemText radix L) → List ℕ → List ℕ
  items_before [] rest = rest
  items_before (i ∷ is) rest = i.before.text ++ 44 ∷ expression_before i.value (items_before is rest)

  abbrev pub point_before : PointText radix L → List ℕ → List ℕ
  point_before p rest = number_before p.size (p.behind.text ++ 44 ∷ operand_before p.operand (before_if position_before p.position rest))

  abbrev pub form_before : FormText radix L → List ℕ → List ℕ
  form_before (Xwd p) rest = pair_before p rest
  form_before (Iowd p) rest = pair_before p rest
  form_before (Exp e more) rest = expression_before e (items_before more rest)
  form_before (Point p) rest = point_before p rest
  form_before (Text form q) rest = quoted_before q rest
  form_before (Block e) rest = expression_before e rest
  form_before (Loc e) rest = expression_before e rest
  form_before (End e) rest = before_if expression_before e rest
  form_before (Radix n) rest = number_before n rest
  form_before (Title t) rest = t.text ++ rest

-- ---- meanings

-- what a part stands for, and the literals up to its end, where some stand before it
module _ {radix : ℕ} {L : Type 0} where
  abbrev pub term_literals : List L → TermText radix L → List L
  term_literals earlier (Literal l) = earlier ++ l ∷ []
  term_literals earlier _ = earlier

  abbrev pub term_given : List L → TermText radix L → Term
  term_given earlier (Number digits) = terms.Number (digits_value radix digits.text)
  term_given earlier (Marked m) = terms.Number (marked_number m)
  term_given earlier (Label name) = terms.Label (symbol_of name.text)
  term_given earlier Point = terms.Here
  term_given earlier (Literal l) = terms.Literal (length earlier)

  unfoldable pub more_literals : List L → List (MoreText radix L) → List L
  more_literals earlier [] = earlier
  more_literals earlier (m ∷ ms) = more_literals (term_literals earlier m.term) ms

  unfoldable pub more_given : List L → List (MoreText radix L) → List SignedTerm
  more_given earlier [] = []
  more_given earlier (m ∷ ms) =
      record { sign = m.sign.sign; term = term_given earlier m.term } ∷ more_given (term_literals earlier m.term) ms

  abbrev pub expression_literals : List L → ExpressionText radix L → List L
  expression_literals earlier e = more_literals (term_literals earlier e.term) e.more

  abbrev pub expression_given : List L → ExpressionText radix L → List SignedTerm
  expression_given earlier e =
      record { sign = sign_given e.sign; term = term_given earlier e.term } ∷ more_given (term_literals earlier e.term) e.more

  abbrev pub optional_literals : List L → Option (ExpressionText radix L) → List L
  optional_literals earlier None = earlier
  optional_literals earlier (Some e) = expression_literals earlier e

  abbrev pub optional_given : List L → Option (ExpressionText radix L) → Option (List SignedTerm)
  optional_given earlier None = None
  optional_given earlier (Some e) = Some (expression_given earlier e)

  abbrev pub index_expression : Option (IndexText radix L) → Option (ExpressionText radix L)
  index_expression x = option_map (λ i. i.register) x

  abbrev pub operand_literals : List L → OperandText radix L → List L
  operand_literals earlier o = optional_literals (optional_literals earlier o.address) (index_expression o.index)

  abbrev pub operand_given : List L → OperandText radix L → Operand
  operand_given earlier o =
      record {
        indirect = is_some o.indirect;
        address = optional_given earlier o.address;
        index = optional_given (optional_literals earlier o.address) (index_expression o.index);
      }

  abbrev pub accumulator_expression : Option (AccumulatorText radix L) → Option (ExpressionText radix L)
  accumulator_expression a = option_map (λ x. x.register) a

  abbrev pub operands_literals : List L → OperandsText radix L → List L
  operands_literals earlier o = operand_literals (optional_literals earlier (accumulator_expression o.accumulator)) o.operand

  abbrev pub instruction_given : List L → Named → OperandsText radix L → Data
  instruction_given earlier named o =
      data_of.Instruction (record {
        word = named.word;
        accumulator = optional_given earlier (accumulator_expression o.accumulator);
        operand = operand_given (optional_literals earlier (accumulator_expression o.accumulator)) o.operand;
      })

  abbrev pub pair_literals : List L → PairText radix L → List L
  pair_literals earlier p = expression_literals (expression_literals earlier p.left) p.right

  abbrev pub right_given : List L → PairText radix L → List SignedTerm
  right_given earlier p = expression_given (expression_literals earlier p.left) p.right

  unfoldable pub items_literals : List L → List (ItemText radix L) → List L
  items_literals earlier [] = earlier
  items_literals earlier (i ∷ is) = items_literals (expression_literals earlier i.value) is

  unfoldable pub items_given : List L → List (ItemText radix L) → List (List SignedTerm)
  items_given earlier [] = []
  items_given earlier (i ∷ is) = expression_given earlier i.value ∷ items_given (expression_literals earlier i.value) is

  abbrev pub form_literals : List L → FormText radix L → List L
  form_literals earlier (Xwd p) = pair_literals earlier p
  form_literals earlier (Iowd p) = pair_literals earlier p
  form_literals earlier (Exp e more) = items_literals (expression_literals earlier e) more
  form_literals earlier (Point p) = operand_literals earlier p.operand
  form_literals earlier (Text form q) = earlier
  form_literals earlier (Block e) = expression_literals earlier e
  form_literals earlier (Loc e) = expression_literals earlier e
  form_literals earlier (End e) = optional_literals earlier e
  form_literals earlier (Radix n) = earlier
  form_literals earlier (Title t) = earlier

  abbrev pub form_given : List L → FormText radix L → Statement
  form_given earlier (Xwd p) = statements.Data (data_of.Halves (expression_given earlier p.left) (right_given earlier p))
  form_given earlier (Iowd p) = statements.Data (data_of.Iowd (expression_given earlier p.left) (right_given earlier p))
  form_given earlier (Exp e more) =
      statements.Data (data_of.Exp (expression_given earlier e ∷ items_given (expression_literals earlier e) more))
  form_given earlier (Point p) =
      statements.Data
      (data_of.Point (number_given p.size) (operand_given earlier p.operand) (option_map (λ x. number_given x.number) p.position))
  form_given earlier (Text form q) = statements.Data (data_of.Text form q.text)
  form_given earlier (Block e) = statements.Data (data_of.Block (expression_given earlier e))
  form_given earlier (Loc e) = statements.Loc (expression_given earlier e)
  form_given earlier (End e) = statements.End (optional_given earlier e)
  form_given earlier (Radix n) = statements.Radix (number_given n)
  form_given earlier (Title t) = statements.Title

-- ---- statements

-- a form or an operation behind its name, an expression, or two with `,,` between them
pub data StatementText (radix : ℕ) (L : Type 0) : Type 0 where
  Formed : NameText → FormText radix L → StatementText radix L
  Instruction : NameText → Named → OperandsText radix L → StatementText radix L
  Value : ExpressionText radix L → StatementText radix L
  Halves : PairText radix L → StatementText radix L

abbrev pub tells_nothing : {radix : ℕ} {L : Type 0} → TermText radix L → Bool
tells_nothing (Label name) = is_none (form_of (folded name.text)) && is_none (named_of (folded name.text))
tells_nothing _ = true

-- its first word, if it begins with one, is the name of no form and of no operation
abbrev pub is_bare : {radix : ℕ} {L : Type 0} → ExpressionText radix L → Bool
is_bare e = is_some e.sign || tells_nothing e.term

abbrev pub statement_before : {radix : ℕ} {L : Type 0} → (L → List ℕ) → StatementText radix L → List ℕ → List ℕ
statement_before text_of (Formed name form) rest = name.text ++ form_before text_of form rest
statement_before text_of (Instruction name named o) rest = name.text ++ operands_before text_of o rest
statement_before text_of (Value e) rest = expression_before text_of e rest
statement_before text_of (Halves p) rest =
    expression_before text_of p.left (p.behind.text ++ 44 ∷ 44 ∷ expression_before text_of p.right rest)

abbrev pub statement_literals : {radix : ℕ} {L : Type 0} → StatementText radix L → List L
statement_literals (Formed name form) = form_literals [] form
statement_literals (Instruction name named o) = operands_literals [] o
statement_literals (Value e) = expression_literals [] e
statement_literals (Halves p) = pair_literals [] p

abbrev pub statement_given : {radix : ℕ} {L : Type 0} → StatementText radix L → Statement
statement_given (Formed name form) = form_given [] form
statement_given (Instruction name named o) = statements.Data (instruction_given [] named o)
statement_given (Value e) = statements.Data (data_of.Value (expression_given [] e))
statement_given (Halves p) = statements.Data (data_of.Halves (expression_given [] p.left) (right_given [] p))

-- a name is that of what stands behind it, and is parted from it
abbrev pub IsStatement : {radix : ℕ} {L : Type 0} → Bool → (L → List ℕ) → StatementText radix L → Type 0
IsStatement in_literal text_of (Formed name form) =
    (form_of (folded name.text) ≡ Some (form_written form)) × (parts_name in_literal (form_before text_of form []) ≡ true)
IsStatement in_literal text_of (Instruction name named o) =
    (form_of (folded name.text) ≡ None) × (named_of (folded name.text) ≡ Some named) × (allows named o ≡ true)
    × (parts_name in_literal (operands_before text_of o []) ≡ true)
IsStatement in_literal text_of (Value e) = is_bare e ≡ true
IsStatement in_literal text_of (Halves p) = is_bare p.left ≡ true

-- ---- literals and lines

-- no literal stands in a literal
abbrev pub nothing_of : ⊥ → List ℕ
nothing_of l = absurd l

-- a statement that gives words, between brackets
pub record LiteralText (radix : ℕ) : Type 0 where
  pub before : Blanks
  pub statement : StatementText radix ⊥
  pub behind : Blanks
  pub legal : IsStatement true nothing_of statement
  pub given : Data
  pub is_given : statement_given statement ≡ statements.Data given
  pub words : gives_words given ≡ true

abbrev pub literal_text : {radix : ℕ} → LiteralText radix → List ℕ
literal_text l = l.before.text ++ statement_before nothing_of l.statement l.behind.text

-- a name with a colon right behind it
pub record LabelText : Type 0 where
  pub before : Blanks
  pub name : NameText

unfoldable pub labels_before : List LabelText → List ℕ → List ℕ
labels_before [] rest = rest
labels_before (l ∷ ls) rest = l.before.text ++ (l.name.text ++ 58 ∷ labels_before ls rest)

-- labels, a statement or none, and a comment or none
pub record LineText (radix : ℕ) : Type 0 where
  pub labels : List LabelText
  pub before : Blanks
  pub statement : Option (StatementText radix (LiteralText radix))
  pub behind : Blanks
  pub comment : Option (List ℕ)

abbrev pub comment_text : Option (List ℕ) → List ℕ
comment_text None = []
comment_text (Some comment) = 59 ∷ comment

abbrev pub line_text : {radix : ℕ} → LineText radix → List ℕ
line_text line =
    labels_before line.labels
    (line.before.text ++ before_if (statement_before literal_text) line.statement (line.behind.text ++ comment_text line.comment))

abbrev pub literals_written : {radix : ℕ} {L : Type 0} → Option (StatementText radix L) → List L
literals_written None = []
literals_written (Some statement) = statement_literals statement

abbrev pub line_given : {radix : ℕ} → LineText radix → Line
line_given line =
    record {
      labels = map (λ l. symbol_of l.name.text) line.labels;
      statement = option_map statement_given line.statement;
      literals = map (λ l. l.given) (literals_written line.statement);
    }

abbrev pub IsStatementOr : {radix : ℕ} → Option (StatementText radix (LiteralText radix)) → Type 0
IsStatementOr None = Unit {0}
IsStatementOr (Some statement) = IsStatement false literal_text statement

-- what a line must be beyond that: its statement is one, and all of it is ASCII
pub record IsLine {radix : ℕ} (line : LineText radix) : Type 0 where
  pub statement : IsStatementOr line.statement
  pub ascii : list_all is_ascii (line_text line) ≡ true
