-- A text of lines that give the words of an image with labels at their places, however words of 0 are put into BLOCK.
use Rattle.std.specs.Prelude.{◌≡◌, ℕ, ℤ, pos, ◌+◌, Bool, true, ◌==◌, ◌&&◌, not, List, [], ◌∷◌, ◌++◌, length, map}
use Rattle.std.specs.List.{list_all}
use Rattle.mac_text.specs.Names.{symbol_of}
use Rattle.mac_asm.specs.Assembly.{IsAssembly}
use Rattle.meaning_laws.specs.Example.{Leaves}
use Rattle.meaning_laws.specs.WrittenSource.{Piece, Placed, are_zeros, lines_text, image_of, CanBeWritten}

-- words with their places, from a place on
abbrev pub at_places : ℕ → List ℕ → List (ℕ × ℕ)
at_places place [] = []
at_places place (word ∷ words) = (place, word) ∷ at_places (place + 1) words

-- the words of lines with their places
abbrev pub words_of : List Piece → List (ℕ × ℕ)
words_of [] = []
words_of (p ∷ ps) = at_places p.place p.words ++ words_of ps

-- the labels of lines with their places
abbrev pub names_of : List Piece → List Placed
names_of [] = []
names_of (p ∷ ps) = map (λ name. record { place = p.place; name = name }) p.labels ++ names_of ps

-- one word at most, or words of 0
abbrev pub is_line : List ℕ → Bool
is_line [] = true
is_line (word ∷ []) = true
is_line (word ∷ next ∷ words) = are_zeros (word ∷ next ∷ words)

-- such words, and a word or a label
abbrev pub is_sound : Piece → Bool
is_sound p = is_line p.words && not (length p.words == 0 && length p.labels == 0)

-- lines with these words, labels and start
pub record IsWritten (text : List ℕ) (names : List Placed) (words : List (ℕ × ℕ)) (start : ℕ) : Type 0 where
  pub pieces : List Piece
  pub lines : text ≡ lines_text start 0o140 pieces
  pub sound : list_all is_sound pieces ≡ true
  pub words_are : words_of pieces ≡ words
  pub names_are : names_of pieces ≡ names

-- the symbols of names with their places
abbrev pub symbols_in : List Placed → List (ℕ × ℤ)
symbols_in names = map (λ at. (symbol_of at.name, pos at.place)) names

-- such a text means the image, and assembles to it
pub record HasImage (text : List ℕ) (names : List Placed) (words : List (ℕ × ℕ)) (start : ℕ) : Type 0 where
  pub meant : Leaves (symbols_in names) [] text words start
  pub assembled : IsAssembly text (image_of words start)

abbrev pub LinesHaveTheirImage : Type 0
LinesHaveTheirImage =
    (text : List ℕ) (names : List Placed) (words : List (ℕ × ℕ)) (start : ℕ) → IsWritten text names words start
    → CanBeWritten names words start → HasImage text names words start
