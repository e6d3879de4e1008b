-- Texts packed into words (MACRO-10 Assembler Manual).
use Rattle.std.specs.Prelude.{ℕ, ◌+◌, ◌*◌, ◌%◌, ◌^◌, List, drop, slice_index, Option}
use Rattle.word36.specs.Sixbit.{sixbit_word as word_in_sixbit}
use Rattle.mac_text.specs.Names.{folded}

-- five characters of seven bits from the left, 0 where there is none; the last bit is 0
unfoldable pub ascii_word : List ℕ → ℕ → ℕ
ascii_word text from =
    slice_index text from % 128 * 2 ^ 29 + slice_index text (from + 1) % 128 * 2 ^ 22 + slice_index text (from + 2) % 128 * 2 ^ 15
    + slice_index text (from + 3) % 128 * 2 ^ 8 + slice_index text (from + 4) % 128 * 2 ^ 1

-- six characters of six bits in SIXBIT, letters in upper case, and spaces behind the last; none where one has no code
unfoldable pub sixbit_word : List ℕ → ℕ → Option ℕ
sixbit_word text from = word_in_sixbit (folded (drop from text))
