-- The packings in which each word has bytes of its own: how many, and which words these are.
use Rattle.std.specs.Prelude.{ℕ, ◌+◌, Bool, ◌&&◌, nat_lt, List, slice_index, Option, Some, None, if◌then◌else◌}
use Rattle.word36.specs.Words.{joined}
use Rattle.image_files.specs.declared.packings.PackErrorKind.{PackErrorKind}
use Rattle.image_files.specs.declared.packings.PackErrorKind.TheVariants.{ExtraBits, NotOctal}
use Rattle.image_files.specs.declared.word_forms.WordForm.{WordForm}
use Rattle.image_files.specs.declared.word_forms.WordForm.TheVariants.{CoreDump, AnsiAscii, Simh, Octal}
use Rattle.image_files.specs.Packings.{Words, core_bytes, core_words, five_bytes, ascii_bytes, ascii_words, ascii_value, are_characters}
use Rattle.image_files.specs.Packings.{simh_bytes, simh_words, simh_value, is_simh, octal_bytes, octal_words}
use Rattle.image_files.specs.Packings.{are_marks, are_octal_digits, half_value}

abbrev pub size_in : WordForm → ℕ
size_in CoreDump = 5
size_in AnsiAscii = 5
size_in Simh = 8
size_in Octal = 15

-- what is wrong with as many bytes that are not those of a word
abbrev pub fault_in : WordForm → PackErrorKind
fault_in CoreDump = ExtraBits
fault_in AnsiAscii = ExtraBits
fault_in Simh = ExtraBits
fault_in Octal = NotOctal

-- the bytes of a word
abbrev pub bytes_in : WordForm → ℕ → List ℕ
bytes_in CoreDump = core_bytes
bytes_in AnsiAscii = ascii_bytes
bytes_in Simh = simh_bytes
bytes_in Octal = octal_bytes

-- the words of bytes, which are numbered from this one on
abbrev pub numbered_words : WordForm → ℕ → List ℕ → Words
numbered_words CoreDump = core_words
numbered_words AnsiAscii = ascii_words
numbered_words Simh = simh_words
numbered_words Octal = octal_words

-- whether six characters from a position on are digits, and the half that they are
abbrev pub digits_at : List ℕ → ℕ → Bool
digits_at bs at = are_octal_digits (slice_index bs at) (slice_index bs (at + 1)) (slice_index bs (at + 2)) (slice_index bs (at + 3))
    (slice_index bs (at + 4)) (slice_index bs (at + 5))

abbrev pub half_at : List ℕ → ℕ → ℕ
half_at bs at = half_value (slice_index bs at) (slice_index bs (at + 1)) (slice_index bs (at + 2)) (slice_index bs (at + 3))
    (slice_index bs (at + 4)) (slice_index bs (at + 5))

-- whether bytes begin with the line of a word, and that word
abbrev pub begins_with_line : List ℕ → Bool
begins_with_line bs = digits_at bs 0 && (digits_at bs 8 && are_marks (slice_index bs 6) (slice_index bs 7) (slice_index bs 14))

abbrev pub line_value : List ℕ → ℕ
line_value bs = joined (half_at bs 0) (half_at bs 8)

-- whether bytes begin with those of a word, and its value
abbrev pub fits_in : WordForm → List ℕ → Bool
fits_in CoreDump bs = nat_lt (slice_index bs 4) 16
fits_in AnsiAscii bs = are_characters (slice_index bs 0) (slice_index bs 1) (slice_index bs 2) (slice_index bs 3)
fits_in Simh bs = is_simh (slice_index bs 4) (slice_index bs 5) (slice_index bs 6) (slice_index bs 7)
fits_in Octal bs = begins_with_line bs

abbrev pub value_in : WordForm → List ℕ → ℕ
value_in CoreDump bs = five_bytes (slice_index bs 0) (slice_index bs 1) (slice_index bs 2) (slice_index bs 3) (slice_index bs 4)
value_in AnsiAscii bs = ascii_value (slice_index bs 0) (slice_index bs 1) (slice_index bs 2) (slice_index bs 3) (slice_index bs 4)
value_in Simh bs = simh_value (slice_index bs 0) (slice_index bs 1) (slice_index bs 2) (slice_index bs 3) (slice_index bs 4)
value_in Octal bs = line_value bs

-- the word that bytes begin with
abbrev pub word_in : WordForm → List ℕ → Option ℕ
word_in form bs = if fits_in form bs then Some (value_in form bs) else None
