-- Tables with an entry for each two jobs (this project's profile).
use Rattle.std.specs.Prelude.{◌≡◌, ◌<◌, ◌+◌, ◌*◌, ◌/◌, ◌%◌, ℕ, Bool, false, List, slice_index_or}
use Rattle.wait_graph.specs.declared.pairs.TheConstants.{NUMBERS, PAIRS}

-- what a table says of two jobs: it has a row for each number from 0 on, with an entry for each number
abbrev pub pair_in : List Bool → ℕ → ℕ → Bool
pair_in pairs j k = slice_index_or pairs (NUMBERS * j + k) false

-- a table says of each two jobs whether this holds of them
abbrev pub Tells : List Bool → (ℕ → ℕ → Bool) → Type 0
Tells pairs holds = (i : ℕ) → i < PAIRS → slice_index_or pairs i false ≡ holds (i / NUMBERS) (i % NUMBERS)

-- no job waits for another that is not marked as one that waits
abbrev pub MarksWaiters : List Bool → (ℕ → ℕ → Bool) → Type 0
MarksWaiters waiting waits =
    (j k : ℕ) → j < NUMBERS → k < NUMBERS → slice_index_or waiting j false ≡ false → waits j k ≡ false
