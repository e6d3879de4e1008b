-- Whether two lists of words or of characters are the same.
use Rattle.std.specs.Prelude.{◌≡◌, ℕ, Bool, true, nat_eq, List}
use Rattle.std.specs.Bool.{Decides}
use Rattle.std.specs.Cmp.{unsigned_Decides, decided, IsEquivalence}
use Rattle.std.specs.Cmp.Lexicographic.{pointwise}
use Rattle.std.specs.Hash as fed
use Rattle.std.specs.Hash.{HashWrites}
use Rattle.std.proofs.Common.{refl, ap}
use Rattle.std.proofs.lemmas.Slice.Eq.{slice_eq-Decides}
use Rattle.kept_parts.specs.Slots.{digest}

abbrev pub same_numbers : List ℕ → List ℕ → Bool
same_numbers a b = pointwise nat_eq a b

-- the number of them that is hashed
abbrev pub digest_writes : List ℕ → HashWrites
digest_writes ns = fed.u64 (digest 0 ns)

-- ---- the test decides

pub numbers-Decides : (a b : List ℕ) → Decides (same_numbers a b) (a ≡ b)
numbers-Decides a b = slice_eq-Decides unsigned_Decides a b (same_numbers a b) refl

pub numbers-equiv : IsEquivalence same_numbers
numbers-equiv = decided same_numbers numbers-Decides

pub numbers-fed : (a b : List ℕ) → same_numbers a b ≡ true → digest_writes a ≡ digest_writes b
numbers-fed a b e = ap digest_writes ((numbers-Decides a b).0 e)
