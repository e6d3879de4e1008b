-- What the records of the code stand for while lines are laid out, and what is handed out in the end.
use Rattle.std.specs.Prelude.{◌≡◌, ℕ, ◌+◌, ◌^◌, ◌<◌, Bool, true, false, List}
use Rattle.std.specs.Prelude.{◌++◌, length, slice_index_or, Option, None, Result, Ok, Err}
use Rattle.mac_text.specs.declared.syntax.Line.{Line}
use Rattle.mac_layout.specs.declared.error.AsmCode.{AsmCode}
use Rattle.mac_layout.specs.declared.error.AsmError.{AsmError}
use Rattle.mac_layout.specs.declared.error.AsmError.TheVariants as errors
use Rattle.mac_layout.specs.declared.layout.Layout.{Layout as Given}
use Rattle.mac_layout.specs.declared.layout.Progress.{Progress}
use Rattle.mac_layout.specs.Addresses.{are_apart}
use Rattle.mac_layout.specs.LaidOut.{Layout, is_taken, addresses_in, count_or, with_labels, addresses_of_literals, laid_out, empty_layout}
use Rattle.std.specs.Map.{keys_of}

-- one mark for each address below 2 ^ 18: whether it is taken
pub record AreMarks (marks : List Bool) (taken : List ℕ) : Type 0 where
  pub all : length marks ≡ 2 ^ 18
  pub each : (address : ℕ) → address < 2 ^ 18 → slice_index_or marks address false ≡ is_taken taken address

-- the record that the code keeps stands for this layout, in which no label stands twice
pub record StandsFor (progress : Progress) (s : Layout) : Type 0 where
  pub labels : progress.labels.entries ≡ s.labels
  pub apart : are_apart (keys_of s.labels) ≡ true
  pub address : progress.address ≡ s.address
  pub addresses : progress.addresses.items ≡ s.addresses
  pub taken : AreMarks progress.taken.items s.taken
  pub sizes : progress.sizes.items ≡ s.sizes

-- whether all labels of a line are new, and the layout with them and its literals where they are
abbrev pub Defines : Bool → Layout → Line → Progress → Type 0
Defines new s line after = (new ≡ are_apart (keys_of s.labels ++ line.labels)) × (new ≡ true → StandsFor after (with_labels s line))

-- the code of a part of a line, and the layout behind it where it has none
abbrev pub Lays : Progress → Progress → (Layout → Option AsmCode) → (Layout → Layout) → Option AsmCode → Type 0
Lays before after code_at next code =
    (s : Layout) → StandsFor before s → (code ≡ code_at s) × (code ≡ None → StandsFor after (next s))

-- the layout behind a statement of this size
abbrev pub with_size : Layout → Result ℕ AsmCode → Layout
with_size s size = record s { address = s.address + count_or 0 size; taken = s.taken ++ addresses_in s.address (count_or 0 size) }

-- where lines can be laid out: the labels, the addresses of the lines and those of the literals
pub record IsLayoutOf (given : Given) (lines : List Line) : Type 0 where
  pub layout : Layout
  pub is : laid_out empty_layout 1 lines ≡ Ok layout
  pub labels : given.labels.entries ≡ layout.labels
  pub addresses : given.addresses.items ≡ layout.addresses
  pub literals : given.literals.items ≡ addresses_of_literals layout

-- the first line that cannot be laid out, unless memory ran out
abbrev pub Refuses : AsmError → List Line → Type 0
Refuses errors.Memory lines = Unit {0}
Refuses (errors.Line number code) lines = laid_out empty_layout 1 lines ≡ Err (record { line = number; code = code })
