-- Numbers and parts of a line (this project's profile).
use Rattle.std.specs.Prelude.{◌≡◌, ◌==◌, ◌&&◌, ◌+◌, ◌-◌, ◌*◌, ℕ, Bool, List, []}
use Rattle.std.specs.Prelude.{◌∷◌, length, Option, Some, None, if◌then◌else◌, nat_le, nat_lt}
use Rattle.std.specs.Borrow.{Bor}
use Rattle.std.specs.List.{list_all, slice_split}
use Rattle.std.specs.Option.{option_map_or}

-- whether a character is a digit of the base; 48 is `0`
abbrev pub is_digit : ℕ → ℕ → Bool
is_digit base d = nat_le 48 d && nat_lt (d - 48) base

-- the number that digits spell behind those of v
abbrev pub value_onto : ℕ → ℕ → List ℕ → ℕ
value_onto base v [] = v
value_onto base v (d ∷ ds) = value_onto base (base * v + (d - 48)) ds

-- the number that a text spells: one or more digits of the base, with any leading zeros, and at most so large
unfoldable pub number : ℕ → ℕ → List ℕ → Option ℕ
number base most text =
    if nat_lt 0 (length text) && (list_all (is_digit base) text && nat_le (value_onto base 0 text) most)
    then Some (value_onto base 0 text) else None

-- the parts of a text between the separators; there is one part more than separators
unfoldable pub parts : ℕ → List ℕ → List (List ℕ)
parts separator text = slice_split (λ b. b == separator) text

-- the parts of a text, where there is one
abbrev pub texts_in : ℕ → Option (Bor (List ℕ)) → List (List ℕ)
texts_in separator rest = option_map_or (λ text. parts separator text.now) rest []

-- what the first of some texts spells, if there is one
abbrev pub front : (List ℕ → Option ℕ) → List (List ℕ) → Option ℕ
front read [] = None
front read (text ∷ more) = read text

-- the first of some texts spells this number, and these are the others
abbrev pub IsFront : (List ℕ → Option ℕ) → ℕ → List (List ℕ) → List (List ℕ) → Type 0
IsFront read n texts others = (text : List ℕ) × (texts ≡ text ∷ others) × (read text ≡ Some n)
