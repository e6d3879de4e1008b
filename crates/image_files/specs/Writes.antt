-- How far the file of an image is written, from its end on.
use Rattle.std.specs.Prelude.{◌≡◌, ℕ, ◌+◌, ◌^◌, ◌<◌, Bool, ◌==◌, ◌||◌, not, List, [], ◌∷◌, ◌++◌, length, flat_map, reverse, if◌then◌else◌}
use Rattle.image_files.specs.Saves.{Block, block_words, iowd, jrst}

-- the IOWD of a block that has words
abbrev pub closing : ℕ → ℕ → List ℕ
closing count first = if count == 0 then [] else iowd count first ∷ []

-- the words of blocks, and the end of the file
abbrev pub ending : ℕ → List Block → List ℕ
ending start blocks = flat_map block_words blocks ++ jrst start ∷ []

-- a word does not belong to the block of so many words that begins here: it is full, or begins elsewhere
abbrev pub is_apart : ℕ → ℕ → ℕ → Bool
is_apart count first address = count == 2 ^ 17 || not (first == address + 1)

-- what stands so far, the last word first: all of these blocks but the IOWD of the first, which has so many words and begins
-- there
abbrev pub IsWritten : ℕ → List Block → List ℕ → ℕ → ℕ → Type 0
IsWritten start [] out count first = (count ≡ 0) × (first ≡ 0) × (reverse out ≡ jrst start ∷ [])
IsWritten start (b ∷ bs) out count first =
    (count ≡ length b.words) × (0 < count) × (first ≡ b.address) × (reverse out ≡ b.words ++ ending start bs)
