-- What names are by tables of names, which have the entries in order.
use Rattle.std.specs.Prelude.{◌≡◌, ℕ, List, Option, nat_eq, if◌then◌else◌}
use Rattle.std.specs.Map.{lookup}

module _ {X : Type 0} where
  -- what a name is by these entries
  abbrev pub said_of : List (ℕ × X) → ℕ → Option X
  said_of entries name = lookup (nat_eq name) entries

  -- this name is what is said of it now, and each other is what it was
  abbrev pub SaysLast : List (ℕ × X) → List (ℕ × X) → ℕ → Option X → Type 0
  SaysLast before after name now = (other : ℕ) → said_of after other ≡ (if nat_eq name other then now else said_of before other)
