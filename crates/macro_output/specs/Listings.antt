-- The listing of a source as text. A text is the list of its ASCII codes.
use Rattle.std.specs.Prelude.{◌≡◌, ℕ, ◌+◌, ◌-◌, Bool, ◌&&◌, ◌||◌, not, List, [], ◌∷◌, ◌++◌, Some, None, length, take, drop, codes, string_bytes}
use Rattle.std.specs.Prelude.{is_some, nat_eq, nat_le, nat_lt, if◌then◌else◌, filter, map, slice_index}
use Rattle.std.specs.List.Sorted.{IsPermutation, IsSortedBy}
use Rattle.script_io.specs.Numbers.{parts}
use Rattle.macro_faults.specs.declared.reports.Report.{Report}
use Rattle.std.specs.List.{flat_map, list_any, prefix_len}
use Rattle.macro_output.specs.Rows.{rows_text}
use Rattle.macro_state.specs.declared.listing.Row.{Row}
use Rattle.macro_state.specs.declared.listing.Expanded.{Expanded}
use Rattle.macro_state.specs.declared.listing.Listing.{Listing}
use Rattle.macro_output.specs.declared.listings.Remark.{Remark}
use Rattle.joined_files.specs.declared.joined.Part.{Part}

-- whether one of these ranges of lines has the line
abbrev pub is_hidden : List (ℕ × ℕ) → ℕ → Bool
is_hidden ranges line = list_any (λ (range : ℕ × ℕ). nat_le range.0 line && nat_le line range.1) ranges

-- how many rows in front are of this line or of an earlier one
abbrev pub rows_to : ℕ → List Row → ℕ
rows_to line rows = prefix_len (λ (row : Row). nat_le row.of line) rows

-- the characters from one index up to another, if these are in order and within the text
abbrev pub part_of : List ℕ → ℕ → ℕ → List ℕ
part_of characters start end = if nat_le start end && nat_le end (length characters) then take (end - start) (drop start characters) else []

-- whether one of these rows has a place
abbrev pub have_place : List Row → Bool
have_place rows = list_any (λ (row : Row). is_some row.place) rows

-- an expanded line is listed if a row of it has a place, and in any case where it is to be and is not empty
abbrev pub is_listed : Expanded → List Row → List ℕ → Bool
is_listed line rows text =
    line.is_shown && (have_place rows || (line.is_all && not (nat_eq (length text) 0)))

abbrev pub expanded_text : Expanded → List Row → List ℕ → List ℕ
expanded_text line rows text = if is_listed line rows text then rows_text None 32 rows line.depth text else []

-- the expanded lines as texts, each with the line of the source that it follows; its rows are those in front that are of its
-- number or of an earlier one
abbrev pub expanded_texts : List ℕ → ℕ → List Expanded → List Row → List (ℕ × List ℕ)
expanded_texts characters number [] rows = []
expanded_texts characters number (line ∷ lines) rows =
    (line.line, expanded_text line (take (rows_to number rows) rows) (part_of characters line.start line.end))
    ∷ expanded_texts characters (number + 1) lines (drop (rows_to number rows) rows)

-- the expanded lines of a listing from one with this number on
abbrev pub expanded_from : Listing → ℕ → List Row → List (ℕ × List ℕ)
expanded_from listing number rows = expanded_texts listing.characters.items number (drop number listing.expanded.items) rows

-- the texts in front that follow this line or an earlier one
abbrev pub texts_to : ℕ → List (ℕ × List ℕ) → List ℕ
texts_to line [] = []
texts_to line (text ∷ texts) = if nat_le text.0 line then text.1 ++ texts_to line texts else []

-- the texts behind these
abbrev pub texts_behind : ℕ → List (ℕ × List ℕ) → List (ℕ × List ℕ)
texts_behind line [] = []
texts_behind line (text ∷ texts) = if nat_le text.0 line then texts_behind line texts else text ∷ texts

-- all the texts
abbrev pub all_texts : List (ℕ × List ℕ) → List ℕ
all_texts texts = flat_map (λ (text : ℕ × List ℕ). text.1) texts

-- the mark behind the number of a line: F, if it is one of those that have constants of floating point
abbrev pub mark_of : List ℕ → ℕ → ℕ
mark_of floats number = if list_any (λ line. nat_eq line number) floats then 70 else 32

-- a line for a file that begins with this line of the source
abbrev pub file_text : ℕ → Part → List ℕ
file_text number part = if nat_eq part.before (number - 1) then codes ";file " ++ (string_bytes part.file ++ codes "\n") else []

abbrev pub files_text : List Part → ℕ → List ℕ
files_text files number = flat_map (file_text number) files

-- a line of the source with its rows, and its expanded lines, unless it is hidden; before it the line of each file that begins with
-- it
abbrev pub source_line : List ℕ → Bool → ℕ → ℕ → List ℕ → List Row → List ℕ → List ℕ
source_line files is_hidden number mark text rows expanded =
    files ++ (if is_hidden then [] else (rows_text (Some number) mark rows 0 text ++ expanded))

-- the lines of a source from one with this number on, up to the last: each with its rows, what it expands to, and what is wrong
-- with it; what is left of that stands at the end
abbrev pub lines_text : Listing → List Part → ℕ → List (List ℕ) → List Row → List (ℕ × List ℕ) → List (ℕ × List ℕ) → List ℕ
lines_text listing files number [] rows expanded remarks = all_texts remarks
lines_text listing files number (text ∷ lines) rows expanded remarks =
    source_line (files_text files number) (is_hidden listing.hidden.items number) number (mark_of listing.floats.items number) text
    (take (rows_to number rows) rows) (texts_to number expanded)
    ++ (texts_to number remarks
    ++ (if nat_eq number listing.last then all_texts (texts_behind number remarks)
    else lines_text listing files (number + 1) lines (drop (rows_to number rows) rows) (texts_behind number expanded) (texts_behind number remarks)))

-- what is wrong, as a text, with its line
abbrev pub remark_text : Remark → ℕ × List ℕ
remark_text remark = (remark.line, remark.text.items)

-- the rows of lines of the source, and those of expanded lines
abbrev pub source_rows : List Row → List Row
source_rows rows = filter (λ (row : Row). not row.expanded) rows

abbrev pub expanded_rows : List Row → List Row
expanded_rows rows = filter (λ (row : Row). row.expanded) rows

-- a source without the end of its last line
abbrev pub without_last_end : List ℕ → List ℕ
without_last_end source = if nat_eq (slice_index source (length source - 1)) 10 then take (length source - 1) source else source

-- the lines of a text
abbrev pub lines_of : List ℕ → List (List ℕ)
lines_of text = parts 10 text

-- the listing of a source, with its files, what is said of each fault and the line that it stands below
abbrev pub listing_text : Listing → List Part → List ℕ → List (ℕ × List ℕ) → List ℕ
listing_text listing files source remarks =
    lines_text listing files 1 (take 4294967294 (lines_of (without_last_end source))) (source_rows listing.rows.items)
    (expanded_from listing 0 (expanded_rows listing.rows.items)) remarks

-- whether a fault stands before another: on an earlier line, or on the same at an earlier column
abbrev pub is_before : Report → Report → Bool
is_before one other = nat_lt one.place.line other.place.line
    || (nat_eq one.place.line other.place.line && nat_lt one.place.column other.place.column)

-- the faults in the order of their places
pub record InOrder (faults sorted : List Report) : Type 0 where
  pub same : IsPermutation faults sorted
  pub in_order : IsSortedBy is_before sorted

-- texts, one for each fault with its line, in the order of the faults' places
pub record AreRemarks (faults : List Report) (remarks : List (ℕ × List ℕ)) : Type 0 where
  pub sorted : List Report
  pub in_order : InOrder faults sorted
  pub at_lines : map (λ (remark : ℕ × List ℕ). remark.0) remarks ≡ map (λ (fault : Report). fault.place.line) sorted
