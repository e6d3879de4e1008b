-- Laws on addresses, values and words (this project's profile).
use Rattle.std.specs.Prelude.{◌≡◌, ℕ, ◌+◌, ◌<◌, ◌^◌, true, nat_eq, is_some, List}
use Rattle.std.specs.Prelude.{[], ◌∷◌, ◌++◌, length, flat_map, Option, Some, Ok}
use Rattle.std.specs.List.{range_with_len}
use Rattle.std.specs.List.Sorted.{IsStrictlyIncreasing}
use Rattle.std.specs.Map.{lookup, keys_of}
use Rattle.mac_text.specs.Lines.{program_of}
use Rattle.mac_text.specs.Printed.{source_of_word, data_of_word, line_of_word}
use Rattle.mac_text.specs.declared.syntax.SignedTerm.{SignedTerm}
use Rattle.mac_text.specs.declared.syntax.Data.{Data}
use Rattle.mac_text.specs.declared.syntax.Statement.{Statement}
use Rattle.mac_text.specs.declared.syntax.Statement.TheVariants as statements
use Rattle.mac_text.specs.declared.syntax.Line.{Line}
use Rattle.mac_layout.specs.Values.{Names, value_of}
use Rattle.mac_asm.specs.Words.{words_of}
use Rattle.mac_layout.specs.Addresses.{Labels, names_at, size_of, are_among, is_count_settled, are_settled}
use Rattle.mac_layout.specs.Addresses.{Located, address_after, literal_sizes, first_address}
use Rattle.mac_asm.specs.Assembly.{Assembled, IsAssembly, all_words_of, lines_at, lines_placed, words_at}

-- an expression of earlier labels and no literal is one that earlier labels make known, and later ones do not change it
pub record EarlierLabelsSettle : Type 0 where
  pub known : (above : Labels) (here : ℕ) (e : List SignedTerm)
      → is_some (value_of (names_at above here []) e) ≡ are_among (keys_of above) e
  pub kept : (above later : Labels) (here : ℕ) (e : List SignedTerm) → are_among (keys_of above) e ≡ true
      → value_of (names_at (above ++ later) here []) e ≡ value_of (names_at above here []) e

-- a statement takes as many addresses as it gives words
abbrev pub StatementsFillTheirAddresses : Type 0
StatementsFillTheirAddresses =
    (labels : Labels) (here : ℕ) (literals above : List ℕ) (given : Data) (words : List ℕ)
    → is_count_settled above given ≡ true
    → all_words_of (names_at labels here literals) given ≡ Some words
    → length words ≡ size_of labels here given

-- the addresses of an image rise, and each address below 2 ^ 18 has the word that the lines give it, or none
pub record IsByAddress (source : List ℕ) (image : Assembled) (assembly : IsAssembly source image) : Type 0 where
  pub rising : IsStrictlyIncreasing (keys_of image.words)
  pub same : (address : ℕ) → address < 2 ^ 18 → lookup (nat_eq address) image.words ≡ lookup (nat_eq address) assembly.words

-- the addresses that the statement of a line takes
abbrev pub statement_size : Labels → ℕ → Option Statement → ℕ
statement_size labels address (Some (statements.Data given)) = size_of labels address given
statement_size labels address _ = 0

abbrev pub addresses_of : Labels → Located → List ℕ
addresses_of labels at = range_with_len at.address (statement_size labels at.address at.line.statement)

-- the addresses that so many words take, one behind the other
unfoldable pub ranges_from : ℕ → List ℕ → List ℕ
ranges_from address [] = []
ranges_from address (size ∷ sizes) = range_with_len address size ++ ranges_from (address + size) sizes

-- the addresses that all statements take, and all literals behind END
abbrev pub addresses_taken : Labels → List Line → List ℕ
addresses_taken labels lines =
    flat_map (addresses_of labels) (lines_at labels lines)
    ++ ranges_from (address_after labels first_address lines) (literal_sizes labels (lines_at labels lines))

-- the words stand where the sizes of the statements put them
abbrev pub TakesItsAddresses : Labels → List Line → List (ℕ × ℕ) → Type 0
TakesItsAddresses labels lines words =
    are_settled [] lines ≡ true → words_at (lines_placed labels lines) ≡ Some words
    → keys_of words ≡ addresses_taken labels lines

-- the line that prints a word is in the grammar, and its value is the word, whatever names stand for
pub record IsReadBack (w : ℕ) : Type 0 where
  pub reads : program_of (source_of_word w) ≡ Ok (line_of_word w ∷ [])
  pub gives : (names : Names) → words_of names (data_of_word w) ≡ Some (w ∷ [])
