-- Images of programs: words with their addresses, and where the program starts.
use Rattle.std.specs.Prelude.{ℕ, ◌+◌, ◌^◌, ◌<◌, ◌≤◌, Bool, ◌==◌, not, All, List, [], ◌∷◌, if◌then◌else◌}

-- words from an address on: their addresses rise, and are below 2 ^ 18
abbrev pub Rises : ℕ → List (ℕ × ℕ) → Type 0
Rises least [] = Unit {0}
Rises least (x ∷ xs) = (least ≤ x.0) × (x.0 < 2 ^ 18) × Rises (x.0 + 1) xs

-- words by rising address, and a start
pub record IsImage (words : List (ℕ × ℕ)) (start : ℕ) : Type 0 where
  pub rises : Rises 0 words
  pub start_fits : start < 2 ^ 18

-- each word has 36 bits
abbrev pub WordsFit : List (ℕ × ℕ) → Type 0
WordsFit words = All (λ (x : ℕ × ℕ). x.1 < 2 ^ 36) words

-- the word at an address, where memory was cleared before the words were loaded
abbrev pub word_at : List (ℕ × ℕ) → ℕ → ℕ
word_at [] a = 0
word_at (x ∷ xs) a = if x.0 == a then x.1 else word_at xs a

abbrev pub is_not_zero : ℕ × ℕ → Bool
is_not_zero x = not (x.1 == 0)
