-- Values: terms, signs, operators and expressions (MACRO-10 Assembler Manual, "Expressions"). Each is read at the front of a
-- text.
use Rattle.std.specs.Prelude.{ℕ, zero, suc, ◌+◌, ◌-◌, ℤ, pos, neg_ℤ, ◌+ℤ◌, ◌-ℤ◌, int_le, Bool, true, false, Result, Ok, Err}
use Rattle.std.specs.Prelude.{◌==◌, ◌||◌, ◌&&◌, List, [], ◌∷◌, ◌++◌, length, drop, Option, Some, None}
use Rattle.std.specs.Prelude.{unwrap_or, unsigned_abs, nat_eq, if◌then◌else◌}
use Rattle.std.specs.Option.{option_map}
use Rattle.std.specs.List.{list_any}
use Rattle.std.specs.Map.{lookup}
use Rattle.word36.specs.Words.{signed_value, complement}
use Rattle.ka_isa.specs.declared.calls.Named.{Named}
use Rattle.mac_text.specs.Characters.{is_digit, upper_case}
use Rattle.mac_text.specs.Names.{symbol_of}
use Rattle.mac_text.specs.Numbers.{number_of}
use Rattle.mac_text.specs.Scan.{begins_with, word_of}
use Rattle.macro_values.specs.Values.{has_word, word_at, value_of, shift_of}
use Rattle.macro_values.specs.declared.operators.Operator.TheVariants.{Times, Over, And, Or, Xor, Shift}
use Rattle.macro_expressions.specs.declared.fault.Stop.{Stop}
use Rattle.macro_expressions.specs.declared.fault.Stop.TheVariants.{Wrong, Beyond}
use Rattle.macro_expressions.specs.declared.symbols.Defined.{Defined}
use Rattle.macro_expressions.specs.declared.kinds.Infix.{Infix}
use Rattle.macro_expressions.specs.declared.kinds.Infix.TheVariants.{Plus, Minus, OfWords}
use Rattle.macro_expressions.specs.declared.kinds.SignKind.{SignKind}
use Rattle.macro_expressions.specs.declared.kinds.SignKind.TheVariants as signs
use Rattle.macro_expressions.specs.declared.kinds.Kind.{Kind}
use Rattle.macro_expressions.specs.declared.kinds.Kind.TheVariants as kinds
use Rattle.macro_expressions.specs.Reading.{◌>>=◌, Front, Reader, or_stop, without, skipped, meets}
use Rattle.macro_expressions.specs.Reading.{eaten, begins_name, begins_name_character, digits_of, ends_line, across_lines}
use Rattle.macro_expressions.specs.Operations.{operation_of}

-- what names stand for in a statement: symbols as they were defined last, else by a table of the whole source; the names that may be
-- macros, of which no value is judged; the point; and where the pool of its literals begins
pub record Names : Type 0 where
  pub table : List (ℕ × ℤ)
  pub defined : List (ℕ × Defined)
  pub macros : List ℕ
  pub here : ℤ
  pub pool_at : ℤ

-- names, and what is read in brackets: in `< >` and `( )` a value, or a statement of one word, or nothing; in `[ ]` a statement,
-- which gives words
pub record Scope : Type 0 where
  pub names : Names
  pub inside : Reader (Option ℤ)
  pub given : Reader (List ℕ)

-- ---- names

abbrev pub first_of : {X : Type 0} → Option X → Option X → Option X
first_of None other = other
first_of (Some x) other = Some x

-- the last value of a symbol so far
abbrev pub defined_as : List (ℕ × Defined) → ℕ → Option Defined
defined_as entries name = lookup (nat_eq name) entries

abbrev pub value_in : Option Defined → Option ℤ
value_in None = None
value_in (Some defined) = Some defined.value

-- a symbol is what it was defined as last, else what the table has
abbrev pub symbol_in : Names → ℕ → Option ℤ
symbol_in names name = first_of (value_in (defined_as names.defined name)) (lookup (nat_eq name) names.table)

-- ---- words of values

-- the word of a value: -2 ^ 35 to 2 ^ 36 - 1 has one
abbrev pub as_word : ℤ → Result ℕ Stop
as_word z = if has_word z then Ok (word_at z) else Err Wrong

-- a number from 0 to a greatest
abbrev pub as_natural : ℕ → ℤ → Result ℕ Stop
as_natural most z = if int_le (pos 0) z && int_le z (pos most) then Ok (unsigned_abs z) else Err Wrong

-- ---- terms

-- the word of an operation
abbrev pub word_meant : Option Named → Option ℤ
word_meant None = None
word_meant (Some named) = Some (signed_value named.word)

-- the value of a name: a symbol's, else the word of an operation
abbrev pub name_value : Names → List ℕ → Option ℤ
name_value names name = first_of (symbol_in names (symbol_of name)) (word_meant (operation_of name))

abbrev pub is_macro : Names → ℕ → Bool
is_macro names name = list_any (nat_eq name) names.macros

unfoldable pub name_at : Scope → Reader ℤ
name_at scope s =
    elim (is_macro scope.names (symbol_of (word_of s.rest))) [
      | true ↦ Err Beyond
      | false ↦ do
        z ← or_stop Wrong (name_value scope.names (word_of s.rest))
        Ok (z, without (length (word_of s.rest)) s)
    ]

-- digits in a radix; each has to be one of it
unfoldable pub digits_at : ℕ → Reader ℤ
digits_at radix s = do
  n ← or_stop Wrong (number_of radix (digits_of s.rest))
  Ok (pos n, without (length (digits_of s.rest)) s)

-- digits with a point behind them are decimal
unfoldable pub plain_at : Reader ℤ
plain_at s =
    elim (begins_with 46 (drop (length (digits_of s.rest)) s.rest)) [
      | true ↦ digits_at 10 s >>= λ n. Ok (n.0, without 1 n.1)
      | false ↦ digits_at s.radix s
    ]

-- behind `<`: what it holds, up to `>`; nothing is 0
unfoldable pub bracket_at : Scope → Reader ℤ
bracket_at scope s = do
  value ← scope.inside s
  if meets 62 value.1 then Ok (unwrap_or value.0 (pos 0), eaten 62 value.1) else Err Beyond

-- digits in a radix, or a bracket whose numbers are in it
unfoldable pub based_at : Scope → ℕ → Reader ℤ
based_at scope radix s =
    elim (begins_with 60 s.rest) [
      | true ↦ bracket_at scope (record s { rest = drop 1 s.rest; radix = radix }) >>= λ n. Ok (n.0, record (n.1) { radix = s.radix })
      | false ↦ digits_at radix s
    ]

-- D is for decimal, O for octal, B for binary
abbrev pub radix_of : List ℕ → Option ℕ
radix_of [] = None
radix_of (c ∷ cs) =
    if upper_case c == 68 then Some 10 else if upper_case c == 79 then Some 8 else if upper_case c == 66 then Some 2 else None

-- behind `^`
unfoldable pub marked_at : Scope → Reader ℤ
marked_at scope s = or_stop Beyond (radix_of s.rest) >>= λ radix. based_at scope radix (without 1 s)

-- `B` and a digit, `^` or `<`
abbrev pub begins_bits : List ℕ → Bool
begins_bits [] = false
begins_bits (c ∷ []) = false
begins_bits (c ∷ d ∷ cs) = upper_case c == 66 && (is_digit d || (d == 60 || d == 94))

-- the number of a bit, in decimal
unfoldable pub bit_at : Scope → Reader ℤ
bit_at scope s = elim (begins_with 94 s.rest) [ true ↦ marked_at scope (without 1 s) | false ↦ based_at scope 10 s ]

-- `B` and a bit number right behind a value: the value's last bit is that one
unfoldable pub bits_behind : Scope → ℤ → Reader ℤ
bits_behind scope z s =
    elim (begins_bits s.rest) [
      | true ↦ do
        b ← bit_at scope (without 1 s)
        bit ← as_natural 35 b.0
        w ← as_word z
        if begins_name_character (b.1).rest then Err Beyond else Ok (signed_value (shift_of w (pos (35 - bit))), b.1)
      | false ↦ if begins_name_character s.rest then Err Beyond else Ok (z, s)
    ]

-- a value and what stands right behind it
abbrev pub with_bits : Scope → Result (ℤ × Front) Stop → Result (ℤ × Front) Stop
with_bits scope read = read >>= λ x. bits_behind scope x.0 x.1

-- behind a statement of a literal: the end of the line, a comment, or the end of the literal
abbrev pub ends_in_literal : Front → Bool
ends_in_literal s = meets 93 s || ends_line (skipped s).rest

-- statements up to `]`, with new lines and comments between them; at most so many
unfoldable pub statements_at : Scope → ℕ → List ℕ → Reader (List ℕ)
statements_at scope zero words s = Err Beyond
statements_at scope (suc n) words s =
    elim (begins_with 93 (across_lines s).rest) [
      | true ↦ Ok (words, without 1 (across_lines s))
      | false ↦ do
        more ← scope.given (across_lines s)
        if ends_in_literal more.1 then statements_at scope n (words ++ more.0) more.1 else Err Beyond
    ]

-- the place of words that are put into the pool; there has to be one
abbrev pub pooled : Scope → List ℕ → Reader ℤ
pooled scope words s =
    if length words == 0 then Err Wrong
    else Ok (scope.names.pool_at +ℤ pos (length s.pool), record s { pool = s.pool ++ words })

-- behind `[`: the place of its words, which go to the pool behind those of the literals closed before
unfoldable pub literal_at : Scope → Reader ℤ
literal_at scope s = do
  words ← statements_at scope 1000 [] s
  pooled scope words.0 words.1

abbrev pub kind_of : List ℕ → Kind
kind_of [] = kinds.Other
kind_of (c ∷ cs) =
    if begins_name (c ∷ cs) then kinds.Name else if is_digit c then kinds.Digits else
    if c == 91 then kinds.Literal else if c == 60 then kinds.Bracket else if c == 46 then kinds.Here else
    if c == 94 then kinds.Marked else kinds.Other

abbrev pub term_of : Scope → Kind → Reader ℤ
term_of scope kinds.Name s = name_at scope s
term_of scope kinds.Digits s = with_bits scope (plain_at s)
term_of scope kinds.Literal s = literal_at scope (without 1 s)
term_of scope kinds.Bracket s = with_bits scope (bracket_at scope (without 1 s))
term_of scope kinds.Here s = Ok (scope.names.here, without 1 s)
term_of scope kinds.Marked s = with_bits scope (marked_at scope (without 1 s))
term_of scope kinds.Other s = Err Beyond

unfoldable pub term_at : Scope → Reader ℤ
term_at scope s = term_of scope (kind_of s.rest) s

-- ---- signs

abbrev pub sign_of : List ℕ → SignKind
sign_of [] = signs.Unsigned
sign_of (c ∷ cs) =
    if c == 43 then signs.Plus else if c == 45 then signs.Minus else
    if c == 94 && begins_with 45 cs then signs.Not else signs.Unsigned

-- a value behind a sign
abbrev pub signed_by : Scope → SignKind → Reader ℤ → Reader ℤ
signed_by scope signs.Unsigned more s = term_at scope s
signed_by scope signs.Plus more s = more (without 1 s)
signed_by scope signs.Minus more s = more (without 1 s) >>= λ x. Ok (neg_ℤ x.0, x.1)
signed_by scope signs.Not more s = do
  x ← more (without 1 (without 1 s))
  w ← as_word x.0
  Ok (signed_value (complement w), x.1)

-- unary = ("+" | "-" | "^-") unary | term; at most so many signs
unfoldable pub unary_at : Scope → ℕ → Reader ℤ
unary_at scope zero s = Err Beyond
unary_at scope (suc n) s = signed_by scope (sign_of (skipped s).rest) (unary_at scope n) (skipped s)

-- ---- operators

-- how strongly an operator binds
abbrev pub strength_of : Infix → ℕ
strength_of Plus = 0
strength_of Minus = 0
strength_of (OfWords Times) = 1
strength_of (OfWords Over) = 1
strength_of (OfWords And) = 2
strength_of (OfWords Or) = 2
strength_of (OfWords Xor) = 2
strength_of (OfWords Shift) = 3

abbrev pub infix_of : List ℕ → Option Infix
infix_of [] = None
infix_of (c ∷ cs) =
    if c == 43 then Some Plus else if c == 45 then Some Minus else
    if c == 42 then Some (OfWords Times) else if c == 47 then Some (OfWords Over) else
    if c == 38 then Some (OfWords And) else if c == 33 then Some (OfWords Or) else
    if c == 94 && begins_with 33 cs then Some (OfWords Xor) else
    if c == 95 then Some (OfWords Shift) else None

-- `^!` has two characters
abbrev pub infix_length : Infix → ℕ
infix_length (OfWords Xor) = 2
infix_length _ = 1

abbrev pub of_strength : ℕ → Option Infix → Option Infix
of_strength level None = None
of_strength level (Some infix_) = if strength_of infix_ == level then Some infix_ else None

-- the operator of this strength that comes next
abbrev pub infix_at : ℕ → List ℕ → Option Infix
infix_at level text = of_strength level (infix_of text)

-- what an operator gives: sums are of whole numbers, the others take words
abbrev pub combined : Infix → ℤ → ℤ → Result ℤ Stop
combined Plus a b = Ok (a +ℤ b)
combined Minus a b = Ok (a -ℤ b)
combined (OfWords operator) a b = do
  x ← as_word a
  y ← as_word b
  or_stop Wrong (option_map signed_value (value_of operator x y))

-- the operators of one level behind a value, from left to right
unfoldable pub more_at : Reader ℤ → ℕ → ℕ → ℤ → Reader ℤ
more_at operand level zero left s = Ok (left, s)
more_at operand level (suc n) left s =
    elim (infix_at level (skipped s).rest) [
      | None ↦ Ok (left, s)
      | Some infix_ ↦ do
        right ← operand (without (infix_length infix_) (skipped s))
        value ← combined infix_ left right.0
        more_at operand level n value right.1
    ]

-- operand { operator operand }
unfoldable pub level_at : ℕ → Reader ℤ → Reader ℤ
level_at level operand s = do
  first ← operand s
  more_at operand level (length (first.1).rest) first.0 first.1

-- shift = unary { "_" unary }; logical = shift { ("&" | "!" | "^!") shift }; product = logical { ("*" | "/") logical };
-- expr = product { ("+" | "-") product }
unfoldable pub expression_at : Scope → Reader ℤ
expression_at scope s = level_at 0 (level_at 1 (level_at 2 (level_at 3 (unary_at scope 100)))) s

-- an expression begins with a sign, a bracket, a quote, a name or a number
abbrev pub begins_expression : List ℕ → Bool
begins_expression [] = false
begins_expression (c ∷ cs) =
    c == 43 || (c == 45 || (c == 94 || (c == 60 || (c == 34 || (c == 39 || (c == 91 || begins_name_character (c ∷ cs)))))))

-- an expression, if one comes next
unfoldable pub optional_at : Scope → Reader (Option ℤ)
optional_at scope s =
    elim (begins_expression (skipped s).rest) [
      | true ↦ expression_at scope (skipped s) >>= λ e. Ok (Some e.0, e.1)
      | false ↦ Ok (None, skipped s)
    ]
