-- Lines and whole sources (MACRO-10 Assembler Manual, this project's profile).
use Rattle.std.specs.Prelude.{◌≡◌, ℕ, ◌+◌, ◌-◌, ◌≤◌, get_or, Bool, true, false, ◌==◌, ◌&&◌, not, nat_lt, nat_le, List, [], ◌∷◌}
use Rattle.std.specs.Prelude.{length, Option, Some, None, Result, Ok, Err, if◌then◌else◌}
use Rattle.std.specs.List.{list_all}
use Rattle.std.specs.Str.Lines.{lines}
use Rattle.mac_text.specs.Names.{is_name, symbol_of}
use Rattle.mac_text.specs.Scan.{◌>>=◌, Scan, skipped, without, begins_with, word_of, is_at_end, items_at}
use Rattle.mac_text.specs.Texts.{after_word}
use Rattle.mac_text.specs.Statements.{statement_at}
use Rattle.mac_text.specs.declared.syntax.TextForm.TheVariants.{Ascii, Sixbit}
use Rattle.mac_text.specs.declared.syntax.Data.{Data}
use Rattle.mac_text.specs.declared.syntax.Data.TheVariants as data_of
use Rattle.mac_text.specs.declared.syntax.Statement.{Statement}
use Rattle.mac_text.specs.declared.syntax.Statement.TheVariants as statements
use Rattle.mac_text.specs.declared.syntax.Line.{Line}
use Rattle.mac_text.specs.declared.fault.ParseError.{ParseError}
use Rattle.mac_text.specs.declared.fault.ParseError.TheVariants as errors

-- a line before anything of it is read
abbrev pub scan_of : ℕ → Bool → List ℕ → Scan
scan_of radix in_literal text = record { radix = radix; in_literal = in_literal; cuts = []; rest = text }

-- a name with a colon right behind it
abbrev pub is_label : List ℕ → Bool
is_label text = is_name (word_of text) && begins_with 58 (after_word text)

abbrev pub label_in : Scan → Option ℕ × Scan
label_in s = if is_label s.rest then (Some (symbol_of (word_of s.rest)), without (length (word_of s.rest) + 1) s) else (None, s)

-- the next label, if one comes next
unfoldable pub next_label_at : Scan → Option (Option ℕ × Scan)
next_label_at s = Some (label_in (skipped s))

-- the statement of a line, if there is one
unfoldable pub optional_statement_at : Scan → Option (Option Statement × Scan)
optional_statement_at s =
    if is_at_end s.in_literal (skipped s).rest then Some (None, skipped s) else (do
      x ← statement_at (skipped s)
      Some (Some x.0, x.1))

-- the statement of a line, if there is one, with nothing behind it but a comment
unfoldable pub whole_statement_at : Scan → Option (Option Statement × Scan)
whole_statement_at s = do
  x ← optional_statement_at s
  if is_at_end x.1.in_literal (skipped x.1).rest then Some (x.0, skipped x.1) else None

-- a text of no characters gives no words, but where a zero character is put behind it
unfoldable pub gives_words : Data → Bool
gives_words (data_of.Text Ascii text) = not (length text == 0)
gives_words (data_of.Text Sixbit text) = not (length text == 0)
gives_words _ = true

abbrev pub with_words : Data → Option Data
with_words given = if gives_words given then Some given else None

abbrev pub literal_data : Option Statement → Option Data
literal_data (Some (statements.Data given)) = with_words given
literal_data _ = None

-- the statement in a literal: one that gives words, with nothing behind it
unfoldable pub literal_of : ℕ → List ℕ → Option Data
literal_of radix text = do
  x ← whole_statement_at (scan_of radix true text)
  literal_data x.0

unfoldable pub literals_of : ℕ → List (List ℕ) → Option (List Data)
literals_of radix [] = Some []
literals_of radix (text ∷ texts) = do
  given ← literal_of radix text
  more ← literals_of radix texts
  Some (given ∷ more)

abbrev pub is_ascii : ℕ → Bool
is_ascii c = nat_lt c 128

-- what stands on a line: labels, a statement or none, and a comment or none, all of it ASCII
unfoldable pub line_of : ℕ → List ℕ → Option Line
line_of radix text =
    if not (list_all is_ascii text) then None else (do
      labels ← items_at next_label_at (length text) (scan_of radix false text)
      statement ← whole_statement_at labels.1
      literals ← literals_of radix statement.1.cuts
      Some (record { labels = labels.0; statement = statement.0; literals = literals }))

-- RADIX with a number from 2 to 10 is the radix of the lines behind it
abbrev pub radix_of : Option Statement → ℕ → ℕ
radix_of (Some (statements.Radix n)) radix = if nat_le 2 n && nat_le n 10 then n else radix
radix_of _ radix = radix

abbrev pub radix_after : Line → ℕ → ℕ
radix_after line radix = radix_of line.statement radix

abbrev pub is_end_statement : Option Statement → Bool
is_end_statement (Some (statements.End start)) = true
is_end_statement _ = false

abbrev pub is_end : Line → Bool
is_end line = is_end_statement line.statement

abbrev pub with_line : Line → Result (List Line) ℕ → Result (List Line) ℕ
with_line line (Ok more) = Ok (line ∷ more)
with_line line (Err n) = Err n

abbrev pub line_then : ℕ → Option Line → (Line → Result (List Line) ℕ) → Result (List Line) ℕ
line_then number None more = Err number
line_then number (Some line) more = if is_end line then Ok (line ∷ []) else with_line line (more line)

-- the lines of a source up to END, where the first of them has this number; or the number of the first that is not in
-- the grammar
unfoldable pub lines_from : ℕ → ℕ → List (List ℕ) → Result (List Line) ℕ
lines_from radix number [] = Ok []
lines_from radix number (text ∷ texts) =
    line_then number (line_of radix text) (λ line. lines_from (radix_after line radix) (number + 1) texts)

-- a source: numbers are octal at first, and the first line is line 1
unfoldable pub program_of : List ℕ → Result (List Line) ℕ
program_of source = lines_from 8 1 (lines source)

abbrev pub Refuses : ParseError → Result (List Line) ℕ → Type 0
Refuses errors.Memory read = Unit {0}
Refuses (errors.Syntax fault) read = read ≡ Err fault.line

-- the program, or the first line that is not in the grammar, unless memory ran out
abbrev pub Parses : Result (List Line) ParseError → Result (List Line) ℕ → Type 0
Parses (Ok program) read = read ≡ Ok program
Parses (Err e) read = Refuses e read

-- what is at fault stands in the line that is refused, or right behind it
abbrev pub IsInLine : ParseError → List ℕ → Type 0
IsInLine errors.Memory source = Unit {0}
IsInLine (errors.Syntax fault) source = fault.position ≤ length (get_or (lines source) (fault.line - 1) [])
