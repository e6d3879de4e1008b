-- Where the lines and the literals of a source stand, under a map from its labels to numbers (MACRO-10 Assembler Manual,
-- this project's profile).
use Rattle.std.specs.Prelude.{ℕ, ◌+◌, Bool, true, false, not, nat_eq, ◌&&◌, List, [], ◌∷◌}
use Rattle.std.specs.Prelude.{◌++◌, length, map, take, drop, flat_map, unwrap_or, Option, Some}
use Rattle.std.specs.List.{list_any, list_all}
use Rattle.std.specs.Map.{lookup}
use Rattle.mac_text.specs.declared.syntax.Term.{Term}
use Rattle.mac_text.specs.declared.syntax.Term.TheVariants.{Number, Label, Here, Literal}
use Rattle.mac_text.specs.declared.syntax.SignedTerm.{SignedTerm}
use Rattle.mac_text.specs.declared.syntax.Data.{Data}
use Rattle.mac_text.specs.declared.syntax.Data.TheVariants as data_of
use Rattle.mac_text.specs.declared.syntax.Statement.{Statement}
use Rattle.mac_text.specs.declared.syntax.Statement.TheVariants as statements
use Rattle.mac_text.specs.declared.syntax.Line.{Line}
use Rattle.mac_layout.specs.Values.{◌>>=◌, Names, value_of, natural_of}
use Rattle.mac_layout.specs.TextSizes.{words_in}

-- a map from labels to numbers: each label with its number
abbrev pub Labels : Type 0
Labels = List (ℕ × ℕ)

-- what names stand for under the map, in a statement at an address, with these addresses of its line's literals
abbrev pub names_at : Labels → ℕ → List ℕ → Names
names_at labels here literals = record { number_of = λ label. lookup (nat_eq label) labels; here = here; literals = literals }

-- the address of the first line, and the start where END names none
abbrev pub first_address : ℕ
first_address = 0o140

-- the value of LOC or BLOCK, where it is not negative
unfoldable pub count_of : Names → List SignedTerm → Option ℕ
count_of names e = value_of names e >>= natural_of

-- how many words a statement gives
unfoldable pub size_of : Labels → ℕ → Data → ℕ
size_of labels here (data_of.Exp es) = length es
size_of labels here (data_of.Text form text) = words_in form (length text)
size_of labels here (data_of.Block count) = unwrap_or (count_of (names_at labels here []) count) 0
size_of labels here _ = 1

-- the address behind a statement: LOC sets it, and words take it further
unfoldable pub address_behind : Labels → ℕ → Option Statement → ℕ
address_behind labels address (Some (statements.Loc e)) = unwrap_or (count_of (names_at labels address []) e) address
address_behind labels address (Some (statements.Data given)) = address + size_of labels address given
address_behind labels address _ = address

-- a line with its address: that of its labels, and of the first word of its statement
pub record Located : Type 0 where
  pub address : ℕ
  pub line : Line

-- the lines from an address on
unfoldable pub located : Labels → ℕ → List Line → List Located
located labels address [] = []
located labels address (line ∷ lines) =
    record { address = address; line = line } ∷ located labels (address_behind labels address line.statement) lines

-- the address behind all lines
unfoldable pub address_after : Labels → ℕ → List Line → ℕ
address_after labels address [] = address
address_after labels address (line ∷ lines) = address_after labels (address_behind labels address line.statement) lines

-- each label of a line with the line's address
abbrev pub labels_at : Located → Labels
labels_at at = map (λ name. (name, at.address)) at.line.labels

-- no number stands twice
unfoldable pub are_apart : List ℕ → Bool
are_apart [] = true
are_apart (n ∷ ns) = not (list_any (nat_eq n) ns) && are_apart ns

-- the sizes of the literals of a line, whose `.` is the line's, and of all lines in order of appearance
abbrev pub sizes_at : Labels → Located → List ℕ
sizes_at labels at = map (size_of labels at.address) at.line.literals

abbrev pub literal_sizes : Labels → List Located → List ℕ
literal_sizes labels lines = flat_map (sizes_at labels) lines

-- addresses one behind the other
unfoldable pub addresses_from : ℕ → List ℕ → List ℕ
addresses_from address [] = []
addresses_from address (size ∷ sizes) = address ∷ addresses_from (address + size) sizes

-- a line with what its names stand for
pub record Placed : Type 0 where
  pub names : Names
  pub line : Line

-- the lines, each with its share of the addresses of the literals
unfoldable pub placed : Labels → List Located → List ℕ → List Placed
placed labels [] addresses = []
placed labels (at ∷ later) addresses =
    record { names = names_at labels at.address (take (length at.line.literals) addresses); line = at.line }
    ∷ placed labels later (drop (length at.line.literals) addresses)

-- whether a term's label is one of these, and it is no literal
abbrev pub is_among : List ℕ → Term → Bool
is_among labels (Number n) = true
is_among labels (Label name) = list_any (nat_eq name) labels
is_among labels Here = true
is_among labels (Literal n) = false

abbrev pub are_among : List ℕ → List SignedTerm → Bool
are_among labels e = list_all (λ t. is_among labels t.term) e

-- whether a BLOCK, and a statement that settles addresses, has no other labels than these and no literal
abbrev pub is_count_settled : List ℕ → Data → Bool
is_count_settled labels (data_of.Block count) = are_among labels count
is_count_settled labels _ = true

abbrev pub is_settled : List ℕ → Option Statement → Bool
is_settled labels (Some (statements.Loc e)) = are_among labels e
is_settled labels (Some (statements.Data given)) = is_count_settled labels given
is_settled labels _ = true

-- LOC and BLOCK have labels of their own line and of lines above it alone, and no literal
unfoldable pub are_settled : List ℕ → List Line → Bool
are_settled above [] = true
are_settled above (line ∷ lines) =
    is_settled (above ++ line.labels) line.statement
    && (list_all (is_count_settled (above ++ line.labels)) line.literals && are_settled (above ++ line.labels) lines)
