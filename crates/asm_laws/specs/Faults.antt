-- Laws on faults (this project's profile).
use Rattle.std.specs.Prelude.{◌≡◌, ◌↔◌, ◌⊎◌, ℕ, ◌+◌, ◌<◌, ◌≤◌, Bool, ◌&&◌, true}
use Rattle.std.specs.Prelude.{false, is_some, List, [], ◌∷◌, ◌++◌, length, Some, Ok, Err, is_ok}
use Rattle.std.specs.List.{list_all}
use Rattle.std.specs.Map.{keys_of, values_of}
use Rattle.std.specs.Str.Lines.{lines}
use Rattle.mac_text.specs.Lines.{program_of}
use Rattle.mac_text.specs.declared.syntax.Line.{Line}
use Rattle.mac_layout.specs.declared.error.AsmCode.{AsmCode}
use Rattle.mac_layout.specs.declared.error.AsmCode.TheVariants.{DefinedTwice, DoesNotFit, NoEnd, NotYetDefined}
use Rattle.mac_layout.specs.declared.error.AsmCode.TheVariants.{AddressTooHigh, Syntax, UnknownName}
use Rattle.mac_layout.specs.Addresses.{Labels, are_settled, literal_sizes, Placed, are_apart}
use Rattle.mac_asm.specs.Assembly.{Assembled, IsAssembly, lines_at, lines_placed, words_at, have_words, are_allowed, are_below, start_at}
use Rattle.asm_laws.specs.Found.{map_of}
use Rattle.mac_layout.specs.Faults.{Fault}
use Rattle.mac_layout.specs.LaidOut.{Layout, empty_layout, laid_out, line_code}
use Rattle.mac_asm.specs.Outcome.{has_end, is_line_known, outcome_of, value_code, words_given}
use Rattle.asm_laws.specs.Laws.{addresses_taken}

-- a fault is reported only of a source without an image, and names a line of it, counted from 1, or 0 if it has no lines
pub record TellsFault (source : List ℕ) (fault : Fault) : Type 0 where
  pub no_image : (image : Assembled) → IsAssembly source image → ⊥
  pub within : fault.line ≤ length (lines source)
  pub counted : 0 < length (lines source) → 0 < fault.line

-- Syntax is reported exactly of the first line that is not in the grammar, and NoEnd exactly of a source whose last line is
-- not END, at the number of its lines
pub record TellsReading (source : List ℕ) (line : ℕ) : Type 0 where
  pub syntax_at : (outcome_of source ≡ Err (record { line = line; code = Syntax })) ↔ (program_of source ≡ Err line)
  pub no_end :
      (outcome_of source ≡ Err (record { line = line; code = NoEnd }))
      ↔ ((read : List Line) × (program_of source ≡ Ok read) × (has_end read ≡ false) × (length read ≡ line))

-- all values fit under a map: literals have words, LOC and RADIX their numbers, and words and start are known
abbrev pub all_fit : Labels → List Line → Bool
all_fit labels read =
    have_words (literal_sizes labels (lines_at labels read))
    && (are_allowed (lines_placed labels read)
    && (is_some (words_at (lines_placed labels read)) && is_some (start_at (lines_placed labels read))))

-- what a code says of the lines, under the map of their labels. If LOC and BLOCK have other than earlier labels, the map does
-- not say where lines stand, and nothing is said here of DefinedTwice, AddressTooHigh and DoesNotFit
pub record TellsCode (read : List Line) (code : AsmCode) : Type 0 where
  -- LOC or BLOCK has a label that does not stand earlier, or a literal
  pub not_yet : code ≡ NotYetDefined → are_settled [] read ≡ false
  -- a label stands twice, or an address has two words
  pub twice : code ≡ DefinedTwice → are_settled [] read ≡ true
      → (are_apart (keys_of (map_of read)) && are_apart (addresses_taken (map_of read) read)) ≡ false
  -- a label or a word stands at 2 ^ 18 or above
  pub high : code ≡ AddressTooHigh → are_settled [] read ≡ true
      → (are_below (values_of (map_of read)) && are_below (addresses_taken (map_of read) read)) ≡ false
  -- a value does not fit
  pub unfit : code ≡ DoesNotFit → are_settled [] read ≡ true → all_fit (map_of read) read ≡ false
  -- a name is not defined
  pub unknown : code ≡ UnknownName → list_all is_line_known (lines_placed (map_of read) read) ≡ false

-- the first line at fault, behind lines that are laid out without a fault
pub record FirstLaid (read : List Line) (fault : Fault) : Type 0 where
  pub above : List Line
  pub line : Line
  pub below : List Line
  pub layout : Layout
  pub parted : read ≡ above ++ (line ∷ below)
  pub counted : fault.line ≡ 1 + length above
  pub without : laid_out empty_layout 1 above ≡ Ok layout
  pub told : line_code layout line ≡ Some fault.code

-- the first line at fault, behind lines whose values are known and fit
pub record FirstGiven (lines : List Placed) (fault : Fault) : Type 0 where
  pub above : List Placed
  pub line : Placed
  pub below : List Placed
  pub words : List (ℕ × ℕ)
  pub parted : lines ≡ above ++ (line ∷ below)
  pub counted : fault.line ≡ 1 + length above
  pub without : words_given 1 above ≡ Ok words
  pub told : value_code line ≡ Some fault.code

-- the first line that cannot be laid out is reported; if there is none, the first whose values are not known or do not fit
abbrev pub TellsFirst : List Line → Fault → Type 0
TellsFirst read fault =
    FirstLaid read fault
    ⊎ (is_ok (laid_out empty_layout 1 read) ≡ true) × FirstGiven (lines_placed (map_of read) read) fault
