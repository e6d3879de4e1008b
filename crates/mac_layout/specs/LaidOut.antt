-- Lines laid out from above (this project's profile): where the labels and the words stand, or the first line that cannot
-- be laid out with the least code of what is wrong with it.
use Rattle.std.specs.Prelude.{ℕ, ℤ, ◌+◌, ◌^◌, Bool, not, nat_lt, nat_le, nat_eq}
use Rattle.std.specs.Prelude.{◌-◌, ◌&&◌, ◌==◌, List, [], ◌∷◌, ◌++◌}
use Rattle.std.specs.Prelude.{length, map, Option, Some, None, Result, Ok, Err, if◌then◌else◌}
use Rattle.std.specs.List.{range_with_len, list_any}
use Rattle.std.specs.Map.{keys_of}
use Rattle.mac_text.specs.declared.syntax.SignedTerm.{SignedTerm}
use Rattle.mac_text.specs.declared.syntax.Data.{Data}
use Rattle.mac_text.specs.declared.syntax.Data.TheVariants as data_of
use Rattle.mac_text.specs.declared.syntax.Statement.{Statement}
use Rattle.mac_text.specs.declared.syntax.Statement.TheVariants as statements
use Rattle.mac_text.specs.declared.syntax.Line.{Line}
use Rattle.mac_layout.specs.declared.error.AsmCode.{AsmCode}
use Rattle.mac_layout.specs.declared.error.AsmCode.TheVariants.{DefinedTwice, DoesNotFit, NotYetDefined, AddressTooHigh}
use Rattle.mac_layout.specs.Values.{value_of, natural_of}
use Rattle.mac_layout.specs.TextSizes.{words_in}
use Rattle.mac_layout.specs.Addresses.{Labels, names_at, labels_at, addresses_from, first_address, are_apart}
use Rattle.mac_layout.specs.Faults.{Fault, least, code_if, code_of, unless_fault}

-- the value of LOC or BLOCK is not negative
abbrev pub count_if : Option ℕ → Result ℕ AsmCode
count_if None = Err DoesNotFit
count_if (Some n) = Ok n

-- its labels stand earlier, and it has no literal
abbrev pub count_from : Option ℤ → Result ℕ AsmCode
count_from None = Err NotYetDefined
count_from (Some value) = count_if (natural_of value)

unfoldable pub checked_count : Labels → ℕ → List SignedTerm → Result ℕ AsmCode
checked_count labels here e = count_from (value_of (names_at labels here []) e)

-- how many words a statement gives
unfoldable pub checked_size : Labels → ℕ → Data → Result ℕ AsmCode
checked_size labels here (data_of.Exp es) = Ok (length es)
checked_size labels here (data_of.Text form text) = Ok (words_in form (length text))
checked_size labels here (data_of.Block count) = checked_count labels here count
checked_size labels here _ = Ok 1

-- a literal gives at least one word
abbrev pub at_least_one : Result ℕ AsmCode → Result ℕ AsmCode
at_least_one (Ok n) = if n == 0 then Err DoesNotFit else Ok n
at_least_one (Err code) = Err code

abbrev pub literal_size : Labels → ℕ → Data → Result ℕ AsmCode
literal_size labels here given = at_least_one (checked_size labels here given)

-- the lines so far, laid out: their labels with their addresses, the address behind the last line, the addresses of the
-- lines, the addresses that have words, and the sizes of the literals
pub record Layout : Type 0 where
  pub labels : Labels
  pub address : ℕ
  pub addresses : List ℕ
  pub taken : List ℕ
  pub sizes : List (Result ℕ AsmCode)

abbrev pub empty_layout : Layout
empty_layout = record { labels = []; address = first_address; addresses = []; taken = []; sizes = [] }

abbrev pub is_taken : List ℕ → ℕ → Bool
is_taken taken address = list_any (nat_eq address) taken

-- of so many addresses from one on, those below 2 ^ 18
abbrev pub addresses_in : ℕ → ℕ → List ℕ
addresses_in address size = range_with_len address (if nat_le size (2 ^ 18 - address) then size else 2 ^ 18 - address)

-- so many words from an address on: each has an address of its own below 2 ^ 18
unfoldable pub taking : List ℕ → ℕ → ℕ → Option AsmCode
taking taken address size =
    least (code_if (list_any (is_taken taken) (addresses_in address size)) DefinedTwice)
    (code_if (not (size == 0) && not (nat_le (address + size) (2 ^ 18))) AddressTooHigh)

-- a size that could be counted, and the addresses that it takes
abbrev pub taking_size : List ℕ → ℕ → Result ℕ AsmCode → Option AsmCode
taking_size taken address (Ok size) = taking taken address size
taking_size taken address (Err code) = Some code

abbrev pub count_or : ℕ → Result ℕ AsmCode → ℕ
count_or other (Ok n) = n
count_or other (Err code) = other

-- all literals behind END, one behind the other
unfoldable pub taking_all : List ℕ → ℕ → List (Result ℕ AsmCode) → Option AsmCode
taking_all taken address [] = None
taking_all taken address (size ∷ sizes) =
    least (taking_size taken address size)
    (taking_all (taken ++ addresses_in address (count_or 0 size)) (address + count_or 0 size) sizes)

-- a line with labels stands below 2 ^ 18
abbrev pub labels_code : Layout → Line → Option AsmCode
labels_code s line = code_if (not (length line.labels == 0) && not (nat_lt s.address (2 ^ 18))) AddressTooHigh

-- the layout where the labels of a line are known, and its literals are measured
unfoldable pub with_labels : Layout → Line → Layout
with_labels s line =
    let labels = s.labels ++ labels_at (record { address = s.address; line = line }) in
    record s {
      labels = labels;
      addresses = s.addresses ++ (s.address ∷ []);
      sizes = s.sizes ++ map (literal_size labels s.address) line.literals;
    }

-- the statement of a line whose labels are known
unfoldable pub statement_code : Layout → Option Statement → Option AsmCode
statement_code s (Some (statements.Data given)) = taking_size s.taken s.address (checked_size s.labels s.address given)
statement_code s (Some (statements.Loc e)) = code_of (checked_count s.labels s.address e)
statement_code s (Some (statements.Radix n)) = code_if (not (nat_le 2 n && nat_le n 10)) DoesNotFit
statement_code s (Some (statements.End start)) = taking_all s.taken s.address s.sizes
statement_code s _ = None

abbrev pub taken_by : Layout → Option Statement → List ℕ
taken_by s (Some (statements.Data given)) = addresses_in s.address (count_or 0 (checked_size s.labels s.address given))
taken_by s _ = []

-- LOC sets the address, and words take it further
abbrev pub address_by : Layout → Option Statement → ℕ
address_by s (Some (statements.Loc e)) = count_or s.address (checked_count s.labels s.address e)
address_by s (Some (statements.Data given)) = s.address + count_or 0 (checked_size s.labels s.address given)
address_by s _ = s.address

-- the layout behind the statement of a line
unfoldable pub with_statement : Layout → Option Statement → Layout
with_statement s statement = record s { address = address_by s statement; taken = s.taken ++ taken_by s statement }

-- the code of a line: DefinedTwice if a label of it stands above or twice on it; otherwise the lesser of the codes of its
-- labels and its statement
unfoldable pub line_code : Layout → Line → Option AsmCode
line_code s line =
    if are_apart (keys_of s.labels ++ line.labels)
    then least (labels_code s line) (statement_code (with_labels s line) line.statement)
    else Some DefinedTwice

abbrev pub with_line : Layout → Line → Layout
with_line s line = with_statement (with_labels s line) line.statement

-- all lines, or the first that cannot be laid out
unfoldable pub laid_out : Layout → ℕ → List Line → Result Layout Fault
laid_out s number [] = Ok s
laid_out s number (line ∷ lines) = unless_fault number (line_code s line) (laid_out (with_line s line) (number + 1) lines)

-- literals stand from the address at END on
abbrev pub addresses_of_literals : Layout → List ℕ
addresses_of_literals s = addresses_from s.address (map (count_or 0) s.sizes)
