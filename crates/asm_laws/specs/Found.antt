-- How the map and the image are found (this project's profile): the labels from the first line on, then the words.
use Rattle.std.specs.Prelude.{ℕ, Bool, ◌&&◌, List, [], ◌∷◌, ◌++◌, Option, Some, None, Result, Ok, Err, if◌then◌else◌}
use Rattle.std.specs.Map.{keys_of, values_of}
use Rattle.mac_text.specs.Lines.{program_of}
use Rattle.mac_text.specs.declared.syntax.Line.{Line}
use Rattle.mac_layout.specs.Values.{◌>>=◌}
use Rattle.mac_layout.specs.Addresses.{Labels, labels_at, address_behind, literal_sizes, are_settled, first_address, are_apart}
use Rattle.mac_asm.specs.Assembly.{Assembled, lines_at, lines_placed, words_at, have_words, are_allowed, are_below, start_at, by_address}

-- the labels of a line at an address
abbrev pub own_labels : ℕ → Line → Labels
own_labels address line = labels_at (record { address = address; line = line })

-- the labels of lines from the first on, behind those above: LOC and BLOCK see those above alone
unfoldable pub labels_from_above : Labels → ℕ → List Line → Labels
labels_from_above above address [] = above
labels_from_above above address (line ∷ lines) =
    labels_from_above (above ++ own_labels address line) (address_behind (above ++ own_labels address line) address line.statement) lines

abbrev pub map_of : List Line → Labels
map_of lines = labels_from_above [] first_address lines

-- all demands on the lines under a map but those on their words
abbrev pub are_placed : Labels → List Line → Bool
are_placed labels lines =
    are_settled [] lines
    && (are_apart (keys_of labels)
    && (have_words (literal_sizes labels (lines_at labels lines))
    && (are_allowed (lines_placed labels lines) && are_below (values_of labels))))

abbrev pub image_if : List (ℕ × ℕ) → ℕ → Option Assembled
image_if words start =
    if are_below (keys_of words) && are_apart (keys_of words) then Some (record { words = by_address words; start = start }) else None

unfoldable pub image_under : Labels → List Line → Option Assembled
image_under labels lines = if are_placed labels lines then (do
  words ← words_at (lines_placed labels lines)
  start ← start_at (lines_placed labels lines)
  image_if words start)
    else None

abbrev pub image_of_lines : Result (List Line) ℕ → Option Assembled
image_of_lines (Ok lines) = image_under (map_of lines) lines
image_of_lines (Err n) = None

-- the image of a source, if it has one
unfoldable pub image_of : List ℕ → Option Assembled
image_of source = image_of_lines (program_of source)
