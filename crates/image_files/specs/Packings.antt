-- Words of 36 bits in bytes of 8, as people keep them.
use Rattle.std.specs.Prelude.{ℕ, ◌+◌, ◌*◌, ◌/◌, ◌%◌, ◌^◌, Bool, ◌==◌, ◌&&◌, nat_le, nat_lt, List, [], ◌∷◌, ◌++◌, codes, flat_map}
use Rattle.std.specs.Prelude.{Result, Ok, Err, if◌then◌else◌}
use Rattle.word36.specs.Octal.{word_text}
use Rattle.word36.specs.Words.{joined}
use Rattle.image_files.specs.declared.packings.Packing.{Packing}
use Rattle.image_files.specs.declared.packings.Packing.TheVariants.{CoreDump, HighDensity, AnsiAscii, Simh, Octal}
use Rattle.image_files.specs.declared.packings.PackErrorKind.{PackErrorKind}
use Rattle.image_files.specs.declared.packings.PackErrorKind.TheVariants.{CutShort, ExtraBits, NotOctal}

-- ---- the bytes of words

-- "core dump": four bytes of 8 bits from the left, and one of the last 4 bits
abbrev pub core_bytes : ℕ → List ℕ
core_bytes w = (w / 2 ^ 28) ∷ (w / 2 ^ 20 % 256) ∷ (w / 2 ^ 12 % 256) ∷ (w / 2 ^ 4 % 256) ∷ (w % 16) ∷ []

-- "ANSI-ASCII": five characters of 7 bits from the left; bit 35 is the top bit of the fifth byte
abbrev pub ascii_bytes : ℕ → List ℕ
ascii_bytes w =
    (w / 2 ^ 29) ∷ (w / 2 ^ 22 % 128) ∷ (w / 2 ^ 15 % 128) ∷ (w / 2 ^ 8 % 128) ∷ (w % 2 * 128 + w / 2 % 128) ∷ []

-- SIMH: a number of eight bytes, the lowest first
abbrev pub simh_bytes : ℕ → List ℕ
simh_bytes w =
    (w % 256) ∷ (w / 2 ^ 8 % 256) ∷ (w / 2 ^ 16 % 256) ∷ (w / 2 ^ 24 % 256) ∷ (w / 2 ^ 32) ∷ 0 ∷ 0 ∷ 0 ∷ []

-- "high density": the 72 bits of two words in nine bytes, the left ones first; a last word alone has five bytes, of which
-- the last 4 bits are 0
abbrev pub dense_pair : ℕ → ℕ → List ℕ → List ℕ
dense_pair w v rest =
    (w / 2 ^ 28) ∷ (w / 2 ^ 20 % 256) ∷ (w / 2 ^ 12 % 256) ∷ (w / 2 ^ 4 % 256) ∷ (w % 16 * 16 + v / 2 ^ 32)
    ∷ (v / 2 ^ 24 % 256) ∷ (v / 2 ^ 16 % 256) ∷ (v / 2 ^ 8 % 256) ∷ (v % 256) ∷ rest

abbrev pub dense_last : ℕ → List ℕ
dense_last w = (w / 2 ^ 28) ∷ (w / 2 ^ 20 % 256) ∷ (w / 2 ^ 12 % 256) ∷ (w / 2 ^ 4 % 256) ∷ (w % 16 * 16) ∷ []

unfoldable pub dense_bytes : List ℕ → List ℕ
dense_bytes [] = []
dense_bytes (w ∷ []) = dense_last w
dense_bytes (w ∷ v ∷ ws) = dense_pair w v (dense_bytes ws)

-- octal: the two halves, on a line
abbrev pub octal_bytes : ℕ → List ℕ
octal_bytes w = word_text w ++ codes "\n"

unfoldable pub packed : Packing → List ℕ → List ℕ
packed CoreDump ws = flat_map core_bytes ws
packed HighDensity ws = dense_bytes ws
packed AnsiAscii ws = flat_map ascii_bytes ws
packed Simh ws = flat_map simh_bytes ws
packed Octal ws = flat_map octal_bytes ws

-- ---- the words of bytes

-- a word, numbered from 1, and what is wrong with its bytes
pub record PackFault : Type 0 where
  pub number : ℕ
  pub kind : PackErrorKind

abbrev pub Words : Type 0
Words = Result (List ℕ) PackFault

abbrev pub wrong_at : ℕ → PackErrorKind → Words
wrong_at number kind = Err (record { number = number; kind = kind })

abbrev pub with_word : ℕ → Words → Words
with_word w (Ok ws) = Ok (w ∷ ws)
with_word w (Err fault) = Err fault

-- a word before others, where its bytes are those of a word; or what is wrong with them
abbrev pub word_or : PackErrorKind → ℕ → Bool → ℕ → Words → Words
word_or kind number fits w more = if fits then with_word w more else wrong_at number kind

-- where they have no bits that the packing leaves 0
abbrev pub word_then : ℕ → Bool → ℕ → Words → Words
word_then number fits w more = word_or ExtraBits number fits w more

abbrev pub five_bytes : ℕ → ℕ → ℕ → ℕ → ℕ → ℕ
five_bytes a b c d e = a * 2 ^ 28 + b * 2 ^ 20 + c * 2 ^ 12 + d * 2 ^ 4 + e

unfoldable pub core_words : ℕ → List ℕ → Words
core_words number [] = Ok []
core_words number (a ∷ b ∷ c ∷ d ∷ e ∷ bs) = word_then number (nat_lt e 16) (five_bytes a b c d e) (core_words (number + 1) bs)
core_words number _ = wrong_at number CutShort

abbrev pub ascii_value : ℕ → ℕ → ℕ → ℕ → ℕ → ℕ
ascii_value a b c d e = a * 2 ^ 29 + b * 2 ^ 22 + c * 2 ^ 15 + d * 2 ^ 8 + e % 128 * 2 + e / 128

abbrev pub are_characters : ℕ → ℕ → ℕ → ℕ → Bool
are_characters a b c d = nat_lt a 128 && (nat_lt b 128 && (nat_lt c 128 && nat_lt d 128))

unfoldable pub ascii_words : ℕ → List ℕ → Words
ascii_words number [] = Ok []
ascii_words number (a ∷ b ∷ c ∷ d ∷ e ∷ bs) =
    word_then number (are_characters a b c d) (ascii_value a b c d e) (ascii_words (number + 1) bs)
ascii_words number _ = wrong_at number CutShort

abbrev pub simh_value : ℕ → ℕ → ℕ → ℕ → ℕ → ℕ
simh_value a b c d e = e * 2 ^ 32 + d * 2 ^ 24 + c * 2 ^ 16 + b * 2 ^ 8 + a

abbrev pub is_simh : ℕ → ℕ → ℕ → ℕ → Bool
is_simh e f g h = nat_lt e 16 && (f == 0 && (g == 0 && h == 0))

unfoldable pub simh_words : ℕ → List ℕ → Words
simh_words number [] = Ok []
simh_words number (a ∷ b ∷ c ∷ d ∷ e ∷ f ∷ g ∷ h ∷ bs) =
    word_then number (is_simh e f g h) (simh_value a b c d e) (simh_words (number + 1) bs)
simh_words number _ = wrong_at number CutShort

abbrev pub second_word : ℕ → ℕ → ℕ → ℕ → ℕ → ℕ
second_word e f g h i = e % 16 * 2 ^ 32 + f * 2 ^ 24 + g * 2 ^ 16 + h * 2 ^ 8 + i

unfoldable pub dense_words : ℕ → List ℕ → Words
dense_words number [] = Ok []
dense_words number (a ∷ b ∷ c ∷ d ∷ e ∷ []) = word_then number (e % 16 == 0) (five_bytes a b c d (e / 16)) (Ok [])
dense_words number (a ∷ b ∷ c ∷ d ∷ e ∷ f ∷ g ∷ h ∷ i ∷ bs) =
    with_word (five_bytes a b c d (e / 16)) (with_word (second_word e f g h i) (dense_words (number + 2) bs))
-- nine bytes are two words, so that fewer than five miss the first and others the second
dense_words number (a ∷ b ∷ c ∷ d ∷ e ∷ f ∷ bs) = wrong_at (number + 1) CutShort
dense_words number _ = wrong_at number CutShort

-- a digit has its character: 48 is `0`
abbrev pub is_octal_digit : ℕ → Bool
is_octal_digit c = nat_le 48 c && nat_lt c 56

abbrev pub are_octal_digits : ℕ → ℕ → ℕ → ℕ → ℕ → ℕ → Bool
are_octal_digits a b c d e f =
    is_octal_digit a && (is_octal_digit b && (is_octal_digit c && (is_octal_digit d && (is_octal_digit e && is_octal_digit f))))

-- the half of a word that six digits are; each leaves its own number when it is divided by 8
abbrev pub half_value : ℕ → ℕ → ℕ → ℕ → ℕ → ℕ → ℕ
half_value a b c d e f = ((((a % 8 * 8 + b % 8) * 8 + c % 8) * 8 + d % 8) * 8 + e % 8) * 8 + f % 8

-- two commas between the halves, and a line feed behind them
abbrev pub are_marks : ℕ → ℕ → ℕ → Bool
are_marks p q z = p == 44 && (q == 44 && z == 10)

unfoldable pub octal_words : ℕ → List ℕ → Words
octal_words number [] = Ok []
octal_words number (a ∷ b ∷ c ∷ d ∷ e ∷ f ∷ p ∷ q ∷ g ∷ h ∷ i ∷ j ∷ k ∷ l ∷ z ∷ bs) =
    word_or NotOctal number (are_octal_digits a b c d e f && (are_octal_digits g h i j k l && are_marks p q z))
    (joined (half_value a b c d e f) (half_value g h i j k l)) (octal_words (number + 1) bs)
octal_words number _ = wrong_at number CutShort

-- the words of bytes, or the first one at fault
unfoldable pub unpacked : Packing → List ℕ → Words
unpacked CoreDump bs = core_words 1 bs
unpacked HighDensity bs = dense_words 1 bs
unpacked AnsiAscii bs = ascii_words 1 bs
unpacked Simh bs = simh_words 1 bs
unpacked Octal bs = octal_words 1 bs
