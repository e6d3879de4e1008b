-- Statements (MACRO-10 Assembler Manual, this project's profile): each reads from a position in a line, and gives
-- what was read and the position behind it.
use Rattle.std.specs.Prelude.{ℕ, Bool, false, ◌||◌, ◌&&◌, not, is_none, List, []}
use Rattle.std.specs.Prelude.{◌∷◌, length, Option, Some, None, if◌then◌else◌}
use Rattle.mac_text.specs.Names.{is_name, folded}
use Rattle.mac_text.specs.Numbers.{number_of}
use Rattle.mac_text.specs.Scan.{◌>>=◌, Scan, skipped, without, meets, eaten, meets_commas}
use Rattle.mac_text.specs.Scan.{commas_eaten, word_of, comment_of, with_front, items_at}
use Rattle.mac_text.specs.Texts.{take_text}
use Rattle.mac_text.specs.Expressions.{marked_at, expression_at, optional_at}
use Rattle.mac_text.specs.Keywords.{form_of}
use Rattle.ka_isa.specs.Operations.{named_of}
use Rattle.ka_isa.specs.declared.calls.Named.{Named}
use Rattle.mac_text.specs.declared.keyword.Form.{Form}
use Rattle.mac_text.specs.declared.keyword.Form.TheVariants as forms
use Rattle.mac_text.specs.declared.syntax.SignedTerm.{SignedTerm}
use Rattle.mac_text.specs.declared.syntax.Operand.{Operand}
use Rattle.mac_text.specs.declared.syntax.Instruction.{Instruction}
use Rattle.mac_text.specs.declared.syntax.Data.{Data}
use Rattle.mac_text.specs.declared.syntax.Data.TheVariants as data_of
use Rattle.mac_text.specs.declared.syntax.Statement.{Statement}
use Rattle.mac_text.specs.declared.syntax.Statement.TheVariants as statements

-- the register of an address part: an expression in parentheses, or nothing
unfoldable pub index_at : Scan → Option (Option (List SignedTerm) × Scan)
index_at s =
    if meets 40 s then (do
      e ← expression_at (eaten 40 s)
      if meets 41 e.1 then Some (Some e.0, eaten 41 e.1) else None)
    else Some (None, eaten 40 s)

-- `[@][expression][(expression)]`
unfoldable pub operand_at : Scan → Option (Operand × Scan)
operand_at s = do
  e ← optional_at (eaten 64 s)
  x ← index_at e.1
  Some (record { indirect = meets 64 s; address = e.0; index = x.0 }, x.1)

-- an expression with a comma behind it is the accumulator, and one without is the address
abbrev pub operands_behind : Option (List SignedTerm) → Scan → Option ((Option (List SignedTerm) × Operand) × Scan)
operands_behind None s = do
  o ← operand_at s
  Some ((None, o.0), o.1)
operands_behind (Some first) s =
    if meets 44 s then (do
      o ← operand_at (eaten 44 s)
      Some ((Some first, o.0), o.1))
    else (do
      x ← index_at (eaten 44 s)
      Some ((None, record { indirect = false; address = Some first; index = x.0 }), x.1))

unfoldable pub operands_at : Scan → Option ((Option (List SignedTerm) × Operand) × Scan)
operands_at s = do
  first ← optional_at s
  operands_behind first.0 first.1

-- an accumulator and an address are written only where the name allows them
abbrev pub is_allowed : Named → Option (List SignedTerm) → Operand → Bool
is_allowed named accumulator operand =
    (named.ac || is_none accumulator) && (named.addr || (not operand.indirect && (is_none operand.address && is_none operand.index)))

unfoldable pub instruction_at : Named → Scan → Option (Instruction × Scan)
instruction_at named s = do
  p ← operands_at s
  if is_allowed named p.0.0 p.0.1 then Some (record { word = named.word; accumulator = p.0.0; operand = p.0.1 }, p.1) else None

-- two expressions with a comma between them
unfoldable pub pair_at : Scan → Option ((List SignedTerm × List SignedTerm) × Scan)
pair_at s = do
  a ← expression_at s
  if meets 44 a.1 then (do
    b ← expression_at (eaten 44 a.1)
    Some ((a.0, b.0), b.1))
      else None

-- the next expression behind its comma, if a comma comes next
unfoldable pub next_expression_at : Scan → Option (Option (List SignedTerm) × Scan)
next_expression_at s =
    if meets 44 s then (do
      e ← expression_at (eaten 44 s)
      Some (Some e.0, e.1))
    else Some (None, eaten 44 s)

-- expressions with commas between them; a line has no more of them than characters
unfoldable pub expressions_at : Scan → Option (List (List SignedTerm) × Scan)
expressions_at s = do
  first ← expression_at s
  with_front (first.0 ∷ []) (items_at next_expression_at (length first.1.rest) first.1)

-- digits in decimal
unfoldable pub decimal_at : Scan → Option (ℕ × Scan)
decimal_at s = do
  n ← number_of 10 (word_of s.rest)
  Some (n, without (length (word_of s.rest)) s)

-- a number: its digits are decimal, and `^D` and `^O` mark one as everywhere
unfoldable pub number_at : Scan → Option (ℕ × Scan)
number_at s = if meets 94 s then marked_at (eaten 94 s) else decimal_at (eaten 94 s)

-- `size,operand[,position]`
unfoldable pub point_at : Scan → Option (Data × Scan)
point_at s = do
  size ← number_at s
  if meets 44 size.1 then (do
    o ← operand_at (eaten 44 size.1)
    if meets 44 o.1 then (do
      position ← number_at (eaten 44 o.1)
      Some (data_of.Point size.0 o.0 (Some position.0), position.1))
        else Some (data_of.Point size.0 o.0 None, eaten 44 o.1))
      else None

-- an expression, or two with `,,` between them
unfoldable pub value_at : Scan → Option (Data × Scan)
value_at s = do
  a ← expression_at s
  if meets_commas a.1 then (do
    b ← expression_at (commas_eaten a.1)
    Some (data_of.Halves a.0 b.0, b.1))
      else Some (data_of.Value a.0, commas_eaten a.1)

abbrev pub with_data : {X : Type 0} → (X → Data) → Option (X × Scan) → Option (Statement × Scan)
with_data f read = read >>= λ x. Some (statements.Data (f x.0), x.1)

-- what follows the name of a form
unfoldable pub form_at : Form → Scan → Option (Statement × Scan)
form_at forms.Loc s = expression_at s >>= λ e. Some (statements.Loc e.0, e.1)
form_at forms.End s = optional_at s >>= λ e. Some (statements.End e.0, e.1)
form_at forms.Radix s = number_at s >>= λ n. Some (statements.Radix n.0, n.1)
form_at forms.Title s = Some (statements.Title, comment_of s)
form_at forms.Xwd s = with_data (λ p. data_of.Halves p.0 p.1) (pair_at s)
form_at forms.Iowd s = with_data (λ p. data_of.Iowd p.0 p.1) (pair_at s)
form_at forms.Exp s = with_data data_of.Exp (expressions_at s)
form_at forms.Point s = with_data (λ d. d) (point_at s)
form_at (forms.Text form) s = with_data (data_of.Text form) (take_text s)
form_at forms.Block s = with_data data_of.Block (expression_at s)

abbrev pub operation_of : List ℕ → Option Named
operation_of name = named_of name

abbrev pub named_at : Option Named → ℕ → Scan → Option (Statement × Scan)
named_at None n s = with_data (λ d. d) (value_at s)
named_at (Some named) n s = with_data data_of.Instruction (instruction_at named (without n s))

abbrev pub formed_at : Option Form → List ℕ → Scan → Option (Statement × Scan)
formed_at (Some form) word s = form_at form (without (length word) s)
formed_at None word s = named_at (operation_of (folded word)) (length word) s

abbrev pub worded_at : List ℕ → Scan → Option (Statement × Scan)
worded_at word s = if is_name word then formed_at (form_of (folded word)) word s else with_data (λ d. d) (value_at s)

-- a statement: its first name is that of a form or an operation; if it is neither, the statement is a value
unfoldable pub statement_at : Scan → Option (Statement × Scan)
statement_at s = worded_at (word_of (skipped s).rest) (skipped s)
