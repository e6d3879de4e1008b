-- A source as `macro` writes it for an image: a line a word, with the labels of its place before it; words of 0 in a row as BLOCK; LOC
-- if the place is not the one after the line before; and END with the start.
use Rattle.std.specs.Prelude.{◌≡◌, ℕ, ℤ, pos, ◌+◌, ◌^◌, ◌<◌, Bool, true, false, ◌==◌, ◌&&◌, nat_lt, List, [], ◌∷◌, ◌++◌, length, map, codes}
use Rattle.std.specs.Prelude.{None, Ok, All}
use Rattle.std.specs.List.{list_all}
use Rattle.word36.specs.Octal.{octal_text, word_text}
use Rattle.mac_text.specs.Characters.{is_name_character}
use Rattle.mac_text.specs.Names.{symbol_of}
use Rattle.mac_layout.specs.Addresses.{are_apart}
use Rattle.mac_asm.specs.Assembly.{Assembled, IsAssembly}
use Rattle.mac_asm.specs.Outcome.{outcome_of}
use Rattle.image_files.specs.Images.{IsImage, WordsFit}
use Rattle.macro_expressions.specs.Reading.{begins_name}
use Rattle.macro_statements.specs.Forms.{built_in}
use Rattle.meaning_laws.specs.Example.{Leaves}

-- ---- lines, each before the rest of the text

-- the labels of a place, and the words that one line has from there on
pub record Piece : Type 0 where
  pub place : ℕ
  pub labels : List (List ℕ)
  pub words : List ℕ

-- a name and a number, as ` LOC 140`
abbrev pub number_line : List ℕ → ℕ → List ℕ → List ℕ
number_line name n rest = 32 ∷ (name ++ 32 ∷ (octal_text n ++ 10 ∷ rest))

abbrev pub place_line : Bool → ℕ → List ℕ → List ℕ
place_line true place rest = rest
place_line false place rest = number_line (codes "LOC") place rest

-- more labels of a place, each after a space
abbrev pub more_labels : List (List ℕ) → List ℕ → List ℕ
more_labels [] rest = rest
more_labels (name ∷ names) rest = 32 ∷ (name ++ 58 ∷ more_labels names rest)

abbrev pub labels_text : List (List ℕ) → List ℕ → List ℕ
labels_text [] rest = rest
labels_text (name ∷ names) rest = name ++ 58 ∷ more_labels names rest

-- no words, one word, or more words, which are words of 0
abbrev pub words_line : List ℕ → List ℕ → List ℕ
words_line [] rest = 10 ∷ rest
words_line (word ∷ []) rest = 32 ∷ (word_text word ++ 10 ∷ rest)
words_line (word ∷ next ∷ words) rest = number_line (codes "BLOCK") (length (word ∷ next ∷ words)) rest

abbrev pub after : Piece → ℕ
after p = p.place + length p.words

-- the lines of pieces, if this place is next
abbrev pub lines_text : ℕ → ℕ → List Piece → List ℕ
lines_text start next [] = number_line (codes "END") start []
lines_text start next (p ∷ ps) =
    place_line (p.place == next) p.place (labels_text p.labels (words_line p.words (lines_text start (after p) ps)))

-- ---- the pieces of an image

abbrev pub are_zeros : List ℕ → Bool
are_zeros words = list_all (λ word. word == 0) words

-- the second piece is right after the first, and has no label
abbrev pub follows : Piece → Piece → Bool
follows p q = q.place == p.place + 1 && length q.labels == 0

-- a word of 0, and words of 0
abbrev pub are_run : List ℕ → List ℕ → Bool
are_run words more = (length words == 1 && nat_lt 0 (length more)) && (are_zeros words && are_zeros more)

-- a word of 0 right before words of 0 that have no label
abbrev pub joins : Piece → Piece → Bool
joins p q = follows p q && are_run p.words q.words

abbrev pub with_words : Bool → Piece → Piece → List Piece → List Piece
with_words true p q ps = record p { words = p.words ++ q.words } ∷ ps
with_words false p q ps = p ∷ q ∷ ps

abbrev pub with_piece : Piece → List Piece → List Piece
with_piece p [] = p ∷ []
with_piece p (q ∷ ps) = with_words (joins p q) p q ps

-- words of 0 in a row as one piece
abbrev pub joined : List Piece → List Piece
joined [] = []
joined (p ∷ ps) = with_piece p (joined ps)

-- a piece a word
abbrev pub piece_of : ℕ × ℕ → Piece
piece_of word = record { place = word.0; labels = []; words = word.1 ∷ [] }

-- a name with its place
pub record Placed : Type 0 where
  pub place : ℕ
  pub name : List ℕ

abbrev pub piece_at : Placed → Piece
piece_at at = record { place = at.place; labels = at.name ∷ []; words = [] }

abbrev pub labelled : Placed → Piece → Piece
labelled at p = record p { labels = at.name ∷ p.labels }

-- a label goes to the piece of its place, or is a piece of its own
abbrev pub with_label : Placed → List Piece → List Piece
with_label at [] = piece_at at ∷ []
with_label at (p ∷ ps) =
    elim (p.place == at.place) [
      | true ↦ labelled at p ∷ ps
      | false ↦ elim (nat_lt at.place p.place) [ true ↦ piece_at at ∷ p ∷ ps | false ↦ p ∷ with_label at ps ]
    ]

abbrev pub with_labels : List Placed → List Piece → List Piece
with_labels [] ps = ps
with_labels (at ∷ more) ps = with_label at (with_labels more ps)

abbrev pub pieces_of : List Placed → List (ℕ × ℕ) → List Piece
pieces_of names words = joined (with_labels names (map piece_of words))

-- the source of an image by rising places, with names by place and name
abbrev pub written_text : List Placed → List (ℕ × ℕ) → ℕ → List ℕ
written_text names words start = lines_text start 0o140 (pieces_of names words)

-- ---- names

-- a name that can be a label at a place: it is no operation and no pseudo-operation
pub record IsLabel (place : ℕ) (name : List ℕ) : Type 0 where
  pub below : place < 2 ^ 18
  pub begins : begins_name name ≡ true
  pub characters : list_all is_name_character name ≡ true
  pub free : built_in name ≡ None

-- the symbols of labels with their places
abbrev pub table_of : List Piece → List (ℕ × ℤ)
table_of [] = []
table_of (p ∷ ps) = map (λ name. (symbol_of name, pos p.place)) p.labels ++ table_of ps

-- names that can be labels at their places, each of another symbol
pub record AreLabels (names : List Placed) : Type 0 where
  pub each : All (λ at. IsLabel at.place at.name) names
  pub apart : are_apart (map (λ at. symbol_of at.name) names) ≡ true

-- ---- what a written source is to the two readers

abbrev pub image_of : List (ℕ × ℕ) → ℕ → Assembled
image_of words start = record { words = words; start = start }

-- by the definitions of what a source means, it leaves this image, by the table of its labels and without a pool of literals
abbrev pub MeansImage : List Placed → List (ℕ × ℕ) → ℕ → Assembled → Type 0
MeansImage names words start image = Leaves (table_of (pieces_of names words)) [] (written_text names words start) image.words image.start

-- what it is for an image and names at their places to have a written source
pub record CanBeWritten (names : List Placed) (words : List (ℕ × ℕ)) (start : ℕ) : Type 0 where
  pub labels : AreLabels names
  pub image : IsImage words start
  pub fit : WordsFit words

-- the source that is written for an image means that image
abbrev pub WrittenMeansImage : Type 0
WrittenMeansImage =
    (names : List Placed) (words : List (ℕ × ℕ)) (start : ℕ) → CanBeWritten names words start
    → MeansImage names words start (image_of words start)

-- and it assembles to that image
abbrev pub WrittenAssembles : Type 0
WrittenAssembles =
    (names : List Placed) (words : List (ℕ × ℕ)) (start : ℕ) → CanBeWritten names words start
    → IsAssembly (written_text names words start) (image_of words start)

-- so the two readers agree: it means each image that is its assembly
abbrev pub AssemblyIsMeant : Type 0
AssemblyIsMeant =
    (names : List Placed) (words : List (ℕ × ℕ)) (start : ℕ) (image : Assembled) → CanBeWritten names words start
    → IsAssembly (written_text names words start) image → MeansImage names words start image

-- and each that the assembler makes of it
abbrev pub ReadersAgree : Type 0
ReadersAgree =
    (names : List Placed) (words : List (ℕ × ℕ)) (start : ℕ) (image : Assembled) → CanBeWritten names words start
    → outcome_of (written_text names words start) ≡ Ok image → MeansImage names words start image
