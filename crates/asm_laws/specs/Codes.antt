-- What each code says of a line and of those above it, whatever stands below (this project's profile).
use Rattle.std.specs.Prelude.{◌≡◌, ◌⊎◌, ℕ, ℤ, ◌+◌, ◌<◌, Bool, true, false}
use Rattle.std.specs.Prelude.{not, nat_le, is_none, is_some, ◌&&◌, ◌||◌, ◌==◌, List}
use Rattle.std.specs.Prelude.{[], ◌∷◌, ◌++◌, length, map, flat_map, Option, Some, None, if◌then◌else◌}
use Rattle.std.specs.List.{list_all, list_any}
use Rattle.std.specs.Map.{keys_of, values_of}
use Rattle.mac_text.specs.Lines.{is_end}
use Rattle.mac_text.specs.declared.syntax.Data.{Data}
use Rattle.mac_text.specs.declared.syntax.Data.TheVariants as data_of
use Rattle.mac_text.specs.declared.syntax.Statement.{Statement}
use Rattle.mac_text.specs.declared.syntax.Statement.TheVariants as statements
use Rattle.mac_text.specs.declared.syntax.Line.{Line}
use Rattle.mac_layout.specs.declared.error.AsmCode.{AsmCode}
use Rattle.mac_layout.specs.declared.error.AsmCode.TheVariants.{DefinedTwice, DoesNotFit, NotYetDefined, AddressTooHigh, UnknownName}
use Rattle.mac_layout.specs.Values.{value_of, natural_of}
use Rattle.mac_layout.specs.Addresses.{Labels, names_at, size_of, address_behind, address_after, literal_sizes, Located, Placed}
use Rattle.mac_layout.specs.Addresses.{is_count_settled, is_settled, are_settled, first_address, are_apart}
use Rattle.mac_asm.specs.Assembly.{lines_at, lines_placed, are_below}
use Rattle.asm_laws.specs.Found.{own_labels, map_of}
use Rattle.mac_layout.specs.Faults.{Fault, number_of}
use Rattle.mac_asm.specs.Outcome.{line_words, has_start, is_line_known}
use Rattle.asm_laws.specs.Laws.{addresses_of, ranges_from}

-- a line with what stands above it: its address, and the labels of the lines up to it, its own among them
pub record LineFromAbove : Type 0 where
  pub labels : Labels
  pub address : ℕ
  pub line : Line

-- a line at an address, where some labels stand above
abbrev pub line_from_above : Labels → ℕ → Line → LineFromAbove
line_from_above above address line = record { labels = above ++ own_labels address line; address = address; line = line }

abbrev pub located_at : LineFromAbove → Located
located_at at = record { address = at.address; line = at.line }

-- the lines from an address on, and the address behind them
unfoldable pub lines_from_above : Labels → ℕ → List Line → List LineFromAbove
lines_from_above above address [] = []
lines_from_above above address (line ∷ lines) =
    line_from_above above address line
    ∷ lines_from_above (above ++ own_labels address line) (address_behind (above ++ own_labels address line) address line.statement) lines

unfoldable pub address_from_above : Labels → ℕ → List Line → ℕ
address_from_above above address [] = address
address_from_above above address (line ∷ lines) =
    address_from_above (above ++ own_labels address line) (address_behind (above ++ own_labels address line) address line.statement) lines

-- the addresses that the statement of a line takes; a BLOCK that cannot be counted takes none
abbrev pub statement_addresses : LineFromAbove → List ℕ
statement_addresses at = addresses_of at.labels (located_at at)

-- the sizes of a line's literals; one that cannot be counted has none
abbrev pub sizes_of_literals : LineFromAbove → List ℕ
sizes_of_literals at = map (size_of at.labels at.address) at.line.literals

-- behind END, the addresses of all literals
abbrev pub literal_addresses_at : List LineFromAbove → LineFromAbove → List ℕ
literal_addresses_at above at =
    if is_end at.line then ranges_from at.address (flat_map sizes_of_literals above ++ sizes_of_literals at) else []

-- the addresses that are taken up to a line
abbrev pub addresses_up_to : List LineFromAbove → LineFromAbove → List ℕ
addresses_up_to above at = flat_map statement_addresses above ++ (statement_addresses at ++ literal_addresses_at above at)

-- a value is known, and below 0
abbrev pub is_negative : Option ℤ → Bool
is_negative None = false
is_negative (Some value) = is_none (natural_of value)

-- LOC or BLOCK has a negative value, or RADIX is not from 2 to 10
abbrev pub is_data_unfit : Labels → ℕ → Data → Bool
is_data_unfit labels address (data_of.Block count) = is_negative (value_of (names_at labels address []) count)
is_data_unfit labels address _ = false

abbrev pub is_statement_unfit : Labels → ℕ → Option Statement → Bool
is_statement_unfit labels address (Some (statements.Data given)) = is_data_unfit labels address given
is_statement_unfit labels address (Some (statements.Loc e)) = is_negative (value_of (names_at labels address []) e)
is_statement_unfit labels address (Some (statements.Radix n)) = not (nat_le 2 n && nat_le n 10)
is_statement_unfit labels address _ = false

-- a literal can be counted and has no word
abbrev pub is_literal_unfit : Labels → ℕ → Data → Bool
is_literal_unfit labels address given = is_count_settled (keys_of labels) given && size_of labels address given == 0

abbrev pub has_unfit_literal : LineFromAbove → Bool
has_unfit_literal at = list_any (is_literal_unfit at.labels at.address) at.line.literals

-- a literal's BLOCK has a label that stands in no line up to its own, or a literal
abbrev pub has_early_literal : LineFromAbove → Bool
has_early_literal at = list_any (λ given. not (is_count_settled (keys_of at.labels) given)) at.line.literals

-- whether END is here, and this is so of a line up to it
abbrev pub at_end : (LineFromAbove → Bool) → List LineFromAbove → LineFromAbove → Bool
at_end test above at = is_end at.line && (list_any test above || test at)

-- whether a code applies to a line, given those above it
abbrev pub is_wrong_at : List LineFromAbove → LineFromAbove → AsmCode → Bool
-- a label or an address is taken twice
is_wrong_at above at DefinedTwice = not (are_apart (keys_of at.labels) && are_apart (addresses_up_to above at))
-- a count is negative or a radix is not allowed, or at END a literal has no word
is_wrong_at above at DoesNotFit = is_statement_unfit at.labels at.address at.line.statement || at_end has_unfit_literal above at
-- LOC or BLOCK has a label that is not among those up to the line, or a literal; or, at END, a literal's BLOCK has one
is_wrong_at above at NotYetDefined = not (is_settled (keys_of at.labels) at.line.statement) || at_end has_early_literal above at
-- a label or an address is at 2 ^ 18 or above
is_wrong_at above at AddressTooHigh = not (are_below (values_of at.labels) && are_below (addresses_up_to above at))
is_wrong_at above at _ = false

-- whether a code applies to a line behind others, from the first on
unfoldable pub is_wrong : List Line → Line → AsmCode → Bool
is_wrong above line =
    is_wrong_at (lines_from_above [] first_address above) (line_from_above (map_of above) (address_from_above [] first_address above) line)

-- no code applies to these lines
abbrev pub AreRight : List Line → Type 0
AreRight lines =
    (above : List Line) (line : Line) (below : List Line) → lines ≡ above ++ (line ∷ below)
    → (code : AsmCode) → is_wrong above line code ≡ false

-- this code applies, and none with a smaller number
pub record IsLeast (wrong : AsmCode → Bool) (code : AsmCode) : Type 0 where
  pub so : wrong code ≡ true
  pub least : (other : AsmCode) → number_of other < number_of code → wrong other ≡ false

-- the first line to which a code applies, with the least such code; whatever stands below it
pub record LaidFault (read : List Line) (fault : Fault) : Type 0 where
  pub above : List Line
  pub line : Line
  pub below : List Line
  pub parted : read ≡ above ++ (line ∷ below)
  pub counted : fault.line ≡ 1 + length above
  pub right : AreRight above
  pub told : IsLeast (is_wrong above line) fault.code

-- all words of a line, and the start of END, are known and fit
abbrev pub is_given : Placed → Bool
is_given at = is_some (line_words at) && has_start at.names at.line.statement

-- in the last step: a name of the line is not known, or all are and a value does not fit
abbrev pub is_value_wrong : Placed → AsmCode → Bool
is_value_wrong at UnknownName = not (is_line_known at)
is_value_wrong at DoesNotFit = is_line_known at && not (is_given at)
is_value_wrong at _ = false

-- the first line whose values are not all known or do not fit
pub record ValueFault (lines : List Placed) (fault : Fault) : Type 0 where
  pub above : List Placed
  pub at : Placed
  pub below : List Placed
  pub parted : lines ≡ above ++ (at ∷ below)
  pub counted : fault.line ≡ 1 + length above
  pub right : list_all is_given above ≡ true
  pub told : is_value_wrong at fault.code ≡ true

-- the first line that cannot be laid out is reported; if there is none, the first whose values are wrong
abbrev pub IsTold : List Line → Fault → Type 0
IsTold read fault = LaidFault read fault ⊎ AreRight read × ValueFault (lines_placed (map_of read) read) fault

-- lines with what stands above them stand where the map of all labels puts them, and the map has exactly their labels
pub record AgreesFromAbove (lines : List Line) : Type 0 where
  pub labelled : keys_of (map_of lines) ≡ flat_map (λ line. line.labels) lines
  pub addresses : are_settled [] lines ≡ true
      → map located_at (lines_from_above [] first_address lines) ≡ lines_at (map_of lines) lines
  pub behind : are_settled [] lines ≡ true
      → address_from_above [] first_address lines ≡ address_after (map_of lines) first_address lines
  pub taken : are_settled [] lines ≡ true
      → flat_map statement_addresses (lines_from_above [] first_address lines)
      ≡ flat_map (addresses_of (map_of lines)) (lines_at (map_of lines) lines)
  pub sizes : are_settled [] lines ≡ true
      → flat_map sizes_of_literals (lines_from_above [] first_address lines)
      ≡ literal_sizes (map_of lines) (lines_at (map_of lines) lines)
