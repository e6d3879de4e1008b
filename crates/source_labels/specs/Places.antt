-- The labels and the literals of a source, with the addresses that its layout gives them (this project's profile).
use Rattle.std.specs.Prelude.{◌≡◌, ℕ, ◌+◌, ◌-◌, ◌^◌, ◌==◌, min, max, nat_lt, Bool, true, false, List, [], ◌∷◌, ◌++◌, length, map}
use Rattle.std.specs.Prelude.{Option, Some, None, Result, Ok, Err, if◌then◌else◌}
use Rattle.mac_text.specs.Lines.{program_of}
use Rattle.mac_text.specs.declared.syntax.Line.{Line}
use Rattle.mac_text.specs.declared.syntax.Statement.{Statement}
use Rattle.mac_text.specs.declared.syntax.Statement.TheVariants as statements
use Rattle.mac_layout.specs.LaidOut.{Layout, addresses_of_literals, empty_layout, laid_out}
use Rattle.source_labels.specs.declared.labels.Label.{Label}
use Rattle.source_labels.specs.declared.places.Literals.{Literals}
use Rattle.source_labels.specs.declared.places.Places.{Places}

-- LOC and END end a block of labels
abbrev pub ends_block : Option Statement → Bool
ends_block (Some (statements.Loc address)) = true
ends_block (Some (statements.End start)) = true
ends_block _ = false

-- no address is above 2 ^ 18
abbrev pub place_of : ℕ → ℕ
place_of address = min address (2 ^ 18)

-- the end of the block of a line: the first LOC or END from there on, and 0 if none comes
abbrev pub block_end : List Line → List ℕ → ℕ
block_end [] addresses = 0
block_end (line ∷ lines) [] = 0
block_end (line ∷ lines) (address ∷ addresses) =
    if ends_block line.statement then place_of address else block_end lines addresses

-- the labels of a line, at its address: they are for that and for the addresses after it in their block
abbrev pub label_at : ℕ → ℕ → ℕ → Label
label_at place end name = record {
  name = name;
  place = place;
  end = max (place + 1) end;
}

abbrev pub labels_at : ℕ → ℕ → List ℕ → List Label
labels_at place end names = if nat_lt place (2 ^ 18) then map (label_at place end) names else []

-- a label whose block ends at an address
abbrev pub with_end : ℕ → Label → Label
with_end end label = record label { end = max label.end end }

-- those of all lines, in their order
abbrev pub labels_of : List Line → List ℕ → List Label
labels_of [] addresses = []
labels_of (line ∷ lines) [] = []
labels_of (line ∷ lines) (address ∷ addresses) =
    labels_at (place_of address) (block_end (line ∷ lines) (address ∷ addresses)) line.labels ++ labels_of lines addresses

-- the labels of blocks that ended and of the current one after a line, of which the block has all these so far: the line may
-- end the block
abbrev pub AreAdded : Bool → ℕ → List Label → List Label → List Label → List Label → Type 0
AreAdded true place closed all closed_then current_then = (closed_then ≡ closed ++ map (with_end place) all) × (current_then ≡ [])
AreAdded false place closed all closed_then current_then = (closed_then ≡ closed) × (current_then ≡ all)

-- the address of the last LOC or END, from which on the literals are; the one so far if none comes
abbrev pub last_end : ℕ → List Line → List ℕ → ℕ
last_end so_far [] addresses = so_far
last_end so_far (line ∷ lines) [] = so_far
last_end so_far (line ∷ lines) (address ∷ addresses) =
    last_end (if ends_block line.statement then place_of address else so_far) lines addresses

-- the address after the words from an address on without a gap
abbrev pub run_end : ℕ → List (ℕ × ℕ) → ℕ
run_end end [] = end
run_end end (word ∷ words) = run_end (if word.0 == end then min (end + 1) (2 ^ 32 - 1) else end) words

-- the addresses of the literals, if there are any
abbrev pub literals_of : ℕ → List ℕ → List (ℕ × ℕ) → Literals
literals_of first [] words = record {
  first = first;
  end = first;
}
literals_of first (literal ∷ literals) words = record {
  first = first;
  end = run_end first words;
}

-- the places are those of lines with these addresses, of which the literals have these
pub record ArePlaces (places : Places) (lines : List Line) (addresses pooled : List ℕ) (words : List (ℕ × ℕ)) : Type 0 where
  pub labels : places.labels.items ≡ labels_of lines addresses
  pub literals : places.literals ≡ literals_of (last_end 0 lines addresses) pooled words
  pub pools : places.pools.items ≡ []
  pub numbers : places.numbers.items ≡ []

-- they are those of a source that is in the grammar and can be laid out, and whose words are these
pub record ArePlacesOf (places : Places) (source : List ℕ) (words : List (ℕ × ℕ)) : Type 0 where
  pub lines : List Line
  pub layout : Layout
  pub read : program_of source ≡ Ok lines
  pub laid : laid_out empty_layout 1 lines ≡ Ok layout
  pub laid_there : ArePlaces places lines layout.addresses (addresses_of_literals layout) words
