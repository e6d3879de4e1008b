-- How the text of a name is kept: filled up with zero bytes, and read as numbers of eight bytes each (this project's
-- profile).
use Rattle.std.specs.Prelude.{ℕ, ◌+◌, ◌-◌, List, [], ◌∷◌, ◌++◌, length, replicate, slice_index}
use Rattle.std.specs.Int.{w64, from_le_bytes}
use Rattle.lock_queue.specs.declared.name.TheConstants.{NAME_BYTES}

-- a text, filled up with zero bytes
abbrev pub filled_up : List ℕ → List ℕ
filled_up text = text ++ replicate (NAME_BYTES - length text) 0

-- the eight bytes from an index on, as a number: the first is the lowest
abbrev pub number_at : List ℕ → ℕ → ℕ
number_at bytes i =
    from_le_bytes w64 (slice_index bytes i ∷ slice_index bytes (i + 1) ∷ slice_index bytes (i + 2) ∷ slice_index bytes (i + 3)
    ∷ slice_index bytes (i + 4) ∷ slice_index bytes (i + 5) ∷ slice_index bytes (i + 6) ∷ slice_index bytes (i + 7) ∷ [])

-- the four numbers that the filled-up text of a name makes
unfoldable pub numbers_of : List ℕ → List ℕ
numbers_of text =
    number_at (filled_up text) 0 ∷ number_at (filled_up text) 8 ∷ number_at (filled_up text) 16 ∷ number_at (filled_up text) 24 ∷ []
