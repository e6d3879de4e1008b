-- What a source comes to (this project's profile): its image, or the first line at fault with the least code of what is
-- wrong with it. The lines are laid out from above first; where that is right, their words are worked out.
use Rattle.std.specs.Prelude.{ℕ, ◌+◌, Bool, true, false, is_some, ◌&&◌, List}
use Rattle.std.specs.Prelude.{[], ◌∷◌, ◌++◌, length, take, drop, reverse}
use Rattle.std.specs.Prelude.{unwrap_or, zip, Option, Some, None, Result, Ok, Err, if◌then◌else◌}
use Rattle.std.specs.List.{list_all}
use Rattle.mac_text.specs.Lines.{program_of, is_end}
use Rattle.mac_text.specs.declared.syntax.Statement.{Statement}
use Rattle.mac_text.specs.declared.syntax.Statement.TheVariants as statements
use Rattle.mac_text.specs.declared.syntax.Line.{Line}
use Rattle.mac_layout.specs.declared.error.AsmCode.{AsmCode}
use Rattle.mac_layout.specs.declared.error.AsmCode.TheVariants.{Syntax, UnknownName, DoesNotFit, NoEnd}
use Rattle.mac_layout.specs.Values.{◌>>=◌, Names}
use Rattle.mac_asm.specs.Words.{are_known, is_known_if}
use Rattle.mac_layout.specs.Addresses.{Labels, names_at, Placed, first_address}
use Rattle.mac_layout.specs.Faults.{Fault, unless_fault}
use Rattle.mac_layout.specs.LaidOut.{Layout, empty_layout, laid_out, addresses_of_literals}
use Rattle.mac_asm.specs.Assembly.{Assembled, statement_words, literal_words, start_by, start_at, by_address}

-- the lines with all that their names stand for, each with its share of the addresses of the literals
unfoldable pub lines_with : Labels → List ℕ → List ℕ → List Line → List Placed
lines_with labels (address ∷ addresses) literals (line ∷ lines) =
    record { names = names_at labels address (take (length line.literals) literals); line = line }
    ∷ lines_with labels addresses (drop (length line.literals) literals) lines
lines_with labels addresses literals lines = []

-- the words of a line, those of its literals first
unfoldable pub line_words : Placed → Option (List (ℕ × ℕ))
line_words at = do
  literals ← literal_words at.names (zip at.names.literals at.line.literals)
  own ← statement_words at.names at.line.statement
  Some (literals ++ own)

-- the start that END names
unfoldable pub has_start : Names → Option Statement → Bool
has_start names (Some (statements.End start)) = is_some (start_by names (Some (statements.End start)))
has_start names _ = true

-- whether all names of a line are known
abbrev pub is_statement_known : Names → Option Statement → Bool
is_statement_known names (Some (statements.Data given)) = are_known names given
is_statement_known names (Some (statements.End start)) = is_known_if names start
is_statement_known names _ = true

abbrev pub is_line_known : Placed → Bool
is_line_known at = list_all (are_known at.names) at.line.literals && is_statement_known at.names at.line.statement

-- the code of a line whose values are not all known or do not all fit: an unknown name comes before a value that does not fit
unfoldable pub value_code : Placed → Option AsmCode
value_code at =
    if is_some (line_words at) && has_start at.names at.line.statement then None
    else Some (if is_line_known at then DoesNotFit else UnknownName)

abbrev pub and_words : List (ℕ × ℕ) → Result (List (ℕ × ℕ)) Fault → Result (List (ℕ × ℕ)) Fault
and_words first (Ok more) = Ok (first ++ more)
and_words first (Err fault) = Err fault

-- the words of all lines, or the first line whose values are not all known or do not fit
unfoldable pub words_given : ℕ → List Placed → Result (List (ℕ × ℕ)) Fault
words_given number [] = Ok []
words_given number (at ∷ later) =
    unless_fault number (value_code at) (and_words (unwrap_or (line_words at) []) (words_given (number + 1) later))

-- the image of words, of which the last given to an address would stay
abbrev pub image_with : ℕ → Result (List (ℕ × ℕ)) Fault → Result Assembled Fault
image_with start (Ok words) = Ok (record { words = by_address (reverse words); start = start })
image_with start (Err fault) = Err fault

unfoldable pub outcome_placed : List Placed → Result Assembled Fault
outcome_placed lines = image_with (unwrap_or (start_at lines) first_address) (words_given 1 lines)

abbrev pub outcome_from : List Line → Result Layout Fault → Result Assembled Fault
outcome_from lines (Ok s) = outcome_placed (lines_with s.labels s.addresses (addresses_of_literals s) lines)
outcome_from lines (Err fault) = Err fault

abbrev pub has_end : List Line → Bool
has_end [] = false
has_end (line ∷ []) = is_end line
has_end (line ∷ lines) = has_end lines

-- first a line that is not in the grammar is reported, then a missing END, at the number of lines
unfoldable pub outcome_read : Result (List Line) ℕ → Result Assembled Fault
outcome_read (Err number) = Err (record { line = number; code = Syntax })
outcome_read (Ok lines) =
    if has_end lines then outcome_from lines (laid_out empty_layout 1 lines)
    else Err (record { line = length lines; code = NoEnd })

-- the image of a source, or the line and the code of what is wrong with it
unfoldable pub outcome_of : List ℕ → Result Assembled Fault
outcome_of source = outcome_read (program_of source)
