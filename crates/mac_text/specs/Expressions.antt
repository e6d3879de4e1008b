-- Terms and expressions (MACRO-10 Assembler Manual, this project's profile): each reads from a position in a line, and
-- gives what was read and the position behind it.
use Rattle.std.specs.Prelude.{ℕ, ◌==◌, ◌||◌, List, [], ◌∷◌, length, Option, Some}
use Rattle.std.specs.Prelude.{None, option_map, unwrap_or, codes, if◌then◌else◌}
use Rattle.std.specs.Str.{bytes_eq}
use Rattle.mac_text.specs.Names.{is_name, symbol_of}
use Rattle.mac_text.specs.Numbers.{number_of}
use Rattle.mac_text.specs.Scan.{◌>>=◌, Scan, skipped, without, head_of, meets, eaten, word_of}
use Rattle.mac_text.specs.Scan.{take_cut, begins_expression, with_front, items_at}
use Rattle.mac_text.specs.Texts.{literal_len}
use Rattle.mac_text.specs.declared.syntax.Sign.{Sign}
use Rattle.mac_text.specs.declared.syntax.Sign.TheVariants.{Plus, Minus}
use Rattle.mac_text.specs.declared.syntax.Term.{Term}
use Rattle.mac_text.specs.declared.syntax.Term.TheVariants.{Number, Label, Here, Literal}
use Rattle.mac_text.specs.declared.syntax.SignedTerm.{SignedTerm}

-- a name is a label, the point is the statement's address, and anything else a number
abbrev pub term_of_word : ℕ → List ℕ → Option Term
term_of_word radix word =
    if is_name word then Some (Label (symbol_of word)) else
    if bytes_eq word (codes ".") then Some Here else option_map Number (number_of radix word)

unfoldable pub word_term_at : Scan → Option (Term × Scan)
word_term_at s = do
  term ← term_of_word s.radix (word_of s.rest)
  Some (term, without (length (word_of s.rest)) s)

-- D is for decimal, O for octal
abbrev pub radix_of_mark : Option ℕ → Option ℕ
radix_of_mark None = None
radix_of_mark (Some c) = if c == 68 || c == 100 then Some 10 else (if c == 79 || c == 111 then Some 8 else None)

-- behind `^`
unfoldable pub marked_at : Scan → Option (ℕ × Scan)
marked_at s = do
  radix ← radix_of_mark (head_of s.rest)
  number ← number_of radix (word_of (without 1 s).rest)
  Some (number, without (length (word_of (without 1 s).rest)) (without 1 s))

-- behind `[`: no literal stands in a literal
unfoldable pub literal_at : Scan → Option (Term × Scan)
literal_at s = if s.in_literal then None else (do
  n ← literal_len s.rest
  Some (Literal (take_cut n s).0, (take_cut n s).1))

unfoldable pub term_at : Scan → Option (Term × Scan)
term_at s =
    if meets 91 s then literal_at (eaten 91 s) else
    if meets 94 (eaten 91 s) then (do
      n ← marked_at (eaten 94 (eaten 91 s))
      Some (Number n.0, n.1))
    else word_term_at (eaten 94 (eaten 91 s))

-- the sign that comes next, if one does
unfoldable pub sign_at : Scan → Option Sign × Scan
sign_at s =
    if meets 43 s then (Some Plus, eaten 43 s) else
    if meets 45 (eaten 43 s) then (Some Minus, eaten 45 (eaten 43 s)) else (None, eaten 45 (eaten 43 s))

unfoldable pub signed_at : Sign → Scan → Option (SignedTerm × Scan)
signed_at sign s = do
  term ← term_at s
  Some (record { sign = sign; term = term.0 }, term.1)

abbrev pub signed_if : Option Sign → Scan → Option (Option SignedTerm × Scan)
signed_if None s = Some (None, s)
signed_if (Some sign) s = do
  term ← signed_at sign s
  Some (Some term.0, term.1)

-- the next term behind its sign, if a sign comes next
unfoldable pub next_term_at : Scan → Option (Option SignedTerm × Scan)
next_term_at s = signed_if (sign_at s).0 (sign_at s).1

-- a term alone, with its sign before it
abbrev pub first_at : Sign → Scan → Option (List SignedTerm × Scan)
first_at sign s = do
  first ← signed_at sign s
  Some (first.0 ∷ [], first.1)

-- a sign or none, and terms joined by signs; a line has no more terms than characters
unfoldable pub expression_at : Scan → Option (List SignedTerm × Scan)
expression_at s = do
  first ← signed_at (unwrap_or (sign_at s).0 Plus) (sign_at s).1
  with_front (first.0 ∷ []) (items_at next_term_at (length first.1.rest) first.1)

-- an expression, if one comes next
unfoldable pub optional_at : Scan → Option (Option (List SignedTerm) × Scan)
optional_at s =
    if begins_expression (skipped s).rest then (do
      e ← expression_at (skipped s)
      Some (Some e.0, e.1))
    else Some (None, skipped s)
