-- The values of expressions: whole numbers without bound.
use Rattle.std.specs.Prelude.{ℕ, suc, ◌-◌, ◌%◌, ℤ, pos, negsuc, ◌+ℤ◌, ◌-ℤ◌}
use Rattle.std.specs.Prelude.{Bool, nat_eq, nat_le, is_some, List, [], ◌∷◌}
use Rattle.std.specs.Prelude.{slice_get, Option, Some, None, option_and_then, if◌then◌else◌}
use Rattle.std.specs.List.{list_all}
use Rattle.indexmap.specs.IndexMap.{get}
use Rattle.mac_text.specs.declared.syntax.Sign.{Sign}
use Rattle.mac_text.specs.declared.syntax.Sign.TheVariants.{Plus, Minus}
use Rattle.mac_text.specs.declared.syntax.Term.{Term}
use Rattle.mac_text.specs.declared.syntax.Term.TheVariants.{Number, Label, Here, Literal}
use Rattle.mac_text.specs.declared.syntax.SignedTerm.{SignedTerm}
use Rattle.mac_layout.specs.declared.sums.Scope.{Scope}

infixl 10 ◌>>=◌
abbrev pub ◌>>=◌ : {A B : Type 0} → Option A → (A → Option B) → Option B
o >>= f = option_and_then f o

-- what the terms of a statement stand for: labels, the point, and the literals of its line
pub record Names : Type 0 where
  pub number_of : ℕ → Option ℕ
  pub here : ℕ
  pub literals : List ℕ

abbrev pub names_of : Scope → Names
names_of s = record { number_of = λ label. get nat_eq s.labels.now label; here = s.here.now; literals = s.literals.now }

-- the number of a term, if it has one
abbrev pub term_value : Names → Term → Option ℕ
term_value names (Number n) = Some n
term_value names (Label label) = names.number_of label
term_value names Here = Some names.here
term_value names (Literal at) = slice_get names.literals at

-- a value with one more term
abbrev pub signed : Sign → ℕ → ℤ → ℤ
signed Plus n value = value +ℤ pos n
signed Minus n value = value -ℤ pos n

-- a value and more terms
abbrev pub value_onto : Names → ℤ → List SignedTerm → Option ℤ
value_onto names value [] = Some value
value_onto names value (t ∷ ts) = term_value names t.term >>= λ n. value_onto names (signed t.sign n value) ts

-- the value of an expression, if each of its terms has one
unfoldable pub value_of : Names → List SignedTerm → Option ℤ
value_of names terms = value_onto names (pos 0) terms

-- a number modulo a size, where it is at most `most`
abbrev pub residue_above : ℕ → ℕ → ℕ → Option ℕ
residue_above most size n = if nat_le n most then Some (n % size) else None

-- the negative of a number modulo a size, where the number is at most `least`
abbrev pub residue_below : ℕ → ℕ → ℕ → Option ℕ
residue_below least size n = if nat_le n least then Some ((size - n) % size) else None

-- the value modulo a size, where it is at least the negative of `least` and at most `most`
unfoldable pub residue_of : ℕ → ℕ → ℕ → ℤ → Option ℕ
residue_of least most size (pos n) = residue_above most size n
residue_of least most size (negsuc n) = residue_below least size (suc n)

-- the value, where it is not below 0
unfoldable pub natural_of : ℤ → Option ℕ
natural_of (pos n) = Some n
natural_of (negsuc n) = None

-- whether each term has a value
unfoldable pub is_known : Names → List SignedTerm → Bool
is_known names terms = list_all (λ t. is_some (term_value names t.term)) terms
