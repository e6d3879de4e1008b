-- What it is for an image to be the assembly of a source (MACRO-10 Assembler Manual, this project's profile): one map from
-- labels to numbers satisfies all lines at once.
use Rattle.std.specs.Prelude.{◌≡◌, ℕ, ◌^◌, Bool, true, nat_eq, nat_lt, nat_le, ◌&&◌}
use Rattle.std.specs.Prelude.{List, [], ◌∷◌, ◌++◌, length, replicate}
use Rattle.std.specs.Prelude.{flat_map, filter_map, zip, Option, Some, None, is_some, option_map, Ok}
use Rattle.std.specs.List.{range_with_len, last_or, list_all}
use Rattle.std.specs.Map.{lookup, keys_of, values_of}
use Rattle.mac_text.specs.Lines.{program_of}
use Rattle.mac_text.specs.declared.syntax.Data.{Data}
use Rattle.mac_text.specs.declared.syntax.Data.TheVariants as data_of
use Rattle.mac_text.specs.declared.syntax.Statement.{Statement}
use Rattle.mac_text.specs.declared.syntax.Statement.TheVariants as statements
use Rattle.mac_text.specs.declared.syntax.Line.{Line}
use Rattle.mac_layout.specs.Values.{◌>>=◌, Names}
use Rattle.mac_asm.specs.Words.{words_of, start_of}
use Rattle.mac_layout.specs.Addresses.{Labels, first_address, are_apart, count_of, Located, located, address_after, labels_at}
use Rattle.mac_layout.specs.Addresses.{literal_sizes, addresses_from, Placed, placed, are_settled}

-- words with their addresses, by rising address, and the start
pub record Assembled : Type 0 where
  pub words : List (ℕ × ℕ)
  pub start : ℕ

-- the lines with their addresses
abbrev pub lines_at : Labels → List Line → List Located
lines_at labels lines = located labels first_address lines

-- literals stand from the address at END on, in order of appearance
abbrev pub literal_addresses : Labels → List Line → List ℕ
literal_addresses labels lines = addresses_from (address_after labels first_address lines) (literal_sizes labels (lines_at labels lines))

-- the lines with all that their names stand for
abbrev pub lines_placed : Labels → List Line → List Placed
lines_placed labels lines = placed labels (lines_at labels lines) (literal_addresses labels lines)

-- the words of a statement, where its names are known and its values fit; BLOCK gives words of 0
unfoldable pub all_words_of : Names → Data → Option (List ℕ)
all_words_of names (data_of.Block count) = option_map (λ n. replicate n 0) (count_of names count)
all_words_of names given = words_of names given

-- words with their addresses, from an address on
abbrev pub at_addresses : ℕ → List ℕ → List (ℕ × ℕ)
at_addresses address words = zip (range_with_len address (length words)) words

-- the words of a statement with their addresses, from an address on
unfoldable pub words_from : Names → ℕ → Data → Option (List (ℕ × ℕ))
words_from names address given = option_map (at_addresses address) (all_words_of names given)

-- the words of a line's statement
unfoldable pub statement_words : Names → Option Statement → Option (List (ℕ × ℕ))
statement_words names (Some (statements.Data given)) = words_from names names.here given
statement_words names _ = Some []

-- the words of literals at their addresses
unfoldable pub literal_words : Names → List (ℕ × Data) → Option (List (ℕ × ℕ))
literal_words names [] = Some []
literal_words names (literal ∷ more) = do
  first ← words_from names literal.0 literal.1
  later ← literal_words names more
  Some (first ++ later)

-- the words of the statements of all lines, and those of all literals
unfoldable pub all_statement_words : List Placed → Option (List (ℕ × ℕ))
all_statement_words [] = Some []
all_statement_words (at ∷ later) = do
  first ← statement_words at.names at.line.statement
  more ← all_statement_words later
  Some (first ++ more)

unfoldable pub all_literal_words : List Placed → Option (List (ℕ × ℕ))
all_literal_words [] = Some []
all_literal_words (at ∷ later) = do
  first ← literal_words at.names (zip at.names.literals at.line.literals)
  more ← all_literal_words later
  Some (first ++ more)

unfoldable pub words_at : List Placed → Option (List (ℕ × ℕ))
words_at lines = do
  own ← all_statement_words lines
  literals ← all_literal_words lines
  Some (own ++ literals)

-- the value of LOC is not negative, and a radix is from 2 to 10
abbrev pub allows : Names → Option Statement → Bool
allows names (Some (statements.Loc e)) = is_some (count_of names e)
allows names (Some (statements.Radix radix)) = nat_le 2 radix && nat_le radix 10
allows names _ = true

abbrev pub are_allowed : List Placed → Bool
are_allowed lines = list_all (λ at. allows at.names at.line.statement) lines

-- each of these sizes is at least 1
abbrev pub have_words : List ℕ → Bool
have_words sizes = list_all (λ size. nat_lt 0 size) sizes

-- END names the start, or none
abbrev pub start_by : Names → Option Statement → Option ℕ
start_by names (Some (statements.End None)) = Some first_address
start_by names (Some (statements.End (Some e))) = start_of names e
start_by names _ = None

-- the start, where the last line is END
abbrev pub start_from : Option Placed → Option ℕ
start_from None = None
start_from (Some at) = start_by at.names at.line.statement

unfoldable pub start_at : List Placed → Option ℕ
start_at lines = start_from (last_or None lines)

-- at each address below 2 ^ 18 the word that it has, if it has one
abbrev pub word_at : List (ℕ × ℕ) → ℕ → Option (ℕ × ℕ)
word_at words address = option_map (λ word. (address, word)) (lookup (nat_eq address) words)

unfoldable pub by_address : List (ℕ × ℕ) → List (ℕ × ℕ)
by_address words = filter_map (word_at words) (range_with_len 0 (2 ^ 18))

abbrev pub are_below : List ℕ → Bool
are_below ns = list_all (λ n. nat_lt n (2 ^ 18)) ns

pub record IsAssembly (source : List ℕ) (image : Assembled) : Type 0 where
  pub lines : List Line
  pub labels : Labels
  pub words : List (ℕ × ℕ)
  -- the source is in the grammar
  pub reads : program_of source ≡ Ok lines
  -- the map gives each label of the source the address of its line, and no label stands twice
  pub is_map : labels ≡ flat_map labels_at (lines_at labels lines)
  pub once : are_apart (keys_of labels) ≡ true
  -- LOC and BLOCK have labels that stand earlier alone, and no literal
  pub settled : are_settled [] lines ≡ true
  -- each literal has at least one word
  pub literals : have_words (literal_sizes labels (lines_at labels lines)) ≡ true
  -- all names are known and all values fit
  pub allowed : are_allowed (lines_placed labels lines) ≡ true
  pub gives : words_at (lines_placed labels lines) ≡ Some words
  -- labels and words stand below 2 ^ 18, and no address has two words
  pub labels_below : are_below (values_of labels) ≡ true
  pub words_below : are_below (keys_of words) ≡ true
  pub words_apart : are_apart (keys_of words) ≡ true
  -- the image is these words by rising address, with the start that END names
  pub words_are : image.words ≡ by_address words
  pub start_is : start_at (lines_placed labels lines) ≡ Some image.start
