-- What is wrong with a line (this project's profile): the least code where there are several.
use Rattle.std.specs.Prelude.{ℕ, Bool, nat_le, Option, Some, None, Result, Ok, Err, if◌then◌else◌}
use Rattle.mac_layout.specs.declared.error.AsmCode.{AsmCode}
use Rattle.mac_layout.specs.declared.error.AsmCode.TheVariants.{Syntax, UnknownName, DefinedTwice, DoesNotFit}
use Rattle.mac_layout.specs.declared.error.AsmCode.TheVariants.{NotYetDefined, AddressTooHigh, NoEnd}

-- a line at fault, counted from 1, and what is wrong with it
pub record Fault : Type 0 where
  pub line : ℕ
  pub code : AsmCode

-- of several codes of a line the least is reported
abbrev pub number_of : AsmCode → ℕ
number_of Syntax = 1
number_of UnknownName = 2
number_of DefinedTwice = 3
number_of DoesNotFit = 4
number_of NotYetDefined = 5
number_of AddressTooHigh = 6
number_of NoEnd = 7

unfoldable pub least : Option AsmCode → Option AsmCode → Option AsmCode
least None b = b
least (Some a) None = Some a
least (Some a) (Some b) = if nat_le (number_of a) (number_of b) then Some a else Some b

abbrev pub code_if : Bool → AsmCode → Option AsmCode
code_if wrong code = if wrong then Some code else None

abbrev pub code_of : {A : Type 0} → Result A AsmCode → Option AsmCode
code_of (Ok x) = None
code_of (Err code) = Some code

abbrev pub unless_fault : {A : Type 0} → ℕ → Option AsmCode → Result A Fault → Result A Fault
unless_fault number None r = r
unless_fault number (Some code) r = Err (record { line = number; code = code })
