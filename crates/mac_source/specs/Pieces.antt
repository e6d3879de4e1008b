-- The pieces of an image that stand on a line each (this project's profile).
use Rattle.std.specs.Prelude.{ℕ, zero, suc, ◌+◌, ◌-◌, ◌*◌, ◌/◌, ◌^◌, ◌<◌, ◌≤◌, Bool, true, false, not, ◌==◌, ◌&&◌, nat_le, nat_lt}
use Rattle.std.specs.Prelude.{List, [], ◌∷◌, ◌++◌, length, replicate, if◌then◌else◌}
use Rattle.std.specs.List.{list_all}
use Rattle.mac_asm.specs.Assembly.{at_addresses}
use Rattle.mac_asm.specs.Packing.{ascii_word}
use Rattle.mac_source.specs.Notes.{ascii_text}
use Rattle.mac_source.specs.declared.pieces.Piece.{Piece}
use Rattle.mac_source.specs.declared.pieces.Piece.TheVariants as variants

-- ---- texts

-- a character of a text, from space to }; the one behind that ends some texts
abbrev pub is_text_character : ℕ → Bool
is_text_character c = nat_le 32 c && nat_lt c 126

-- the characters before the first zero character
abbrev pub before_zero : List ℕ → List ℕ
before_zero [] = []
before_zero (c ∷ cs) = if c == 0 then [] else c ∷ before_zero cs

-- the text of a word
abbrev pub text_in : ℕ → List ℕ
text_in w = before_zero (ascii_text w)

-- a word that is nothing but its text
abbrev pub reads_as_text : ℕ → Bool
reads_as_text w = list_all is_text_character (text_in w) && ascii_word (text_in w) 0 == w

-- one of five characters, and one with a zero character behind its text
abbrev pub is_full : ℕ → Bool
is_full w = reads_as_text w && length (text_in w) == 5

abbrev pub is_end : ℕ → Bool
is_end w = reads_as_text w && nat_lt (length (text_in w)) 5

-- n words of a text from word i on
abbrev pub text_words_from : List ℕ → ℕ → ℕ → List ℕ
text_words_from text i zero = []
text_words_from text i (suc n) = ascii_word text (5 * i) ∷ text_words_from text (i + 1) n

-- a text and a zero character behind it, in words
abbrev pub text_count : List ℕ → ℕ
text_count text = length text / 5 + 1

abbrev pub text_words : List ℕ → List ℕ
text_words text = text_words_from text 0 (text_count text)

-- ---- pieces

-- the first word of a piece with its address
abbrev pub first : Piece → ℕ × ℕ
first (variants.Word a w) = (a, w)
first (variants.Zeros a n) = (a, 0)
first (variants.Text a text) = (a, ascii_word text 0)

abbrev pub address_of : Piece → ℕ
address_of p = (first p).0

-- how many words it has
abbrev pub count : Piece → ℕ
count (variants.Word a w) = 1
count (variants.Zeros a n) = n
count (variants.Text a text) = text_count text

-- the address behind it
abbrev pub behind : Piece → ℕ
behind p = address_of p + count p

-- its words with their addresses
abbrev pub words_in : Piece → List (ℕ × ℕ)
words_in (variants.Word a w) = (a, w) ∷ []
words_in (variants.Zeros a n) = at_addresses a (replicate n 0)
words_in (variants.Text a text) = at_addresses a (text_words text)

-- all its words are 0
abbrev pub is_zeros : Piece → Bool
is_zeros (variants.Word a w) = w == 0
is_zeros (variants.Zeros a n) = true
is_zeros (variants.Text a text) = false

-- a piece that stands right behind a word, with no label
abbrev pub is_next : (ℕ → Bool) → ℕ × ℕ → Piece → Bool
is_next marked x p = address_of p == x.0 + 1 && not (marked (address_of p))

-- a word alone: a text of four characters, or a word
abbrev pub alone : Bool → ℕ × ℕ → Piece
alone texts x =
    if texts && (is_end x.1 && length (text_in x.1) == 4) then variants.Text x.0 (text_in x.1) else variants.Word x.0 x.1

-- a word of 0 is in one piece with words of 0
abbrev pub joins_zeros : Bool → ℕ × ℕ → Piece → Bool
joins_zeros blocks x p = blocks && (x.1 == 0 && is_zeros p)

-- five characters are in one piece with a text, with a word that ends one, and with the first of some words of 0
abbrev pub ends_text : Piece → Bool
ends_text (variants.Word a w) = is_end w
ends_text (variants.Zeros a n) = nat_lt 0 n
ends_text (variants.Text a text) = true

abbrev pub joins_text : Bool → ℕ × ℕ → Piece → Bool
joins_text texts x p = texts && (is_full x.1 && ends_text p)

-- the text of a piece that ends one
abbrev pub text_of : Piece → List ℕ
text_of (variants.Word a w) = text_in w
text_of (variants.Zeros a n) = []
text_of (variants.Text a text) = text

-- so many words of 0, of which one alone is a word
abbrev pub zeros_at : ℕ → ℕ → Piece
zeros_at a n = if n == 1 then variants.Word a 0 else variants.Zeros a n

-- the words of 0 behind the first, which ends a text, stand before the pieces behind them
abbrev pub rest_before : Piece → List Piece → List Piece
rest_before (variants.Word a w) ps = ps
rest_before (variants.Zeros a n) ps = if nat_lt 1 n then zeros_at (a + 1) (n - 1) ∷ ps else ps
rest_before (variants.Text a text) ps = ps

abbrev pub text_if : Bool → Bool → ℕ × ℕ → Piece → List Piece → List Piece
text_if true texts x p ps = variants.Text x.0 (ascii_text x.1 ++ text_of p) ∷ rest_before p ps
text_if false texts x p ps = alone texts x ∷ p ∷ ps

abbrev pub zeros_if : Bool → Bool → ℕ × ℕ → Piece → List Piece → List Piece
zeros_if true texts x p ps = variants.Zeros x.0 (count p + 1) ∷ ps
zeros_if false texts x p ps = text_if (joins_text texts x p) texts x p ps

abbrev pub join_if : Bool → Bool → Bool → ℕ × ℕ → Piece → List Piece → List Piece
join_if true blocks texts x p ps = zeros_if (joins_zeros blocks x p) texts x p ps
join_if false blocks texts x p ps = alone texts x ∷ p ∷ ps

-- a word before pieces
abbrev pub with_word : Bool → Bool → (ℕ → Bool) → ℕ × ℕ → List Piece → List Piece
with_word blocks texts marked x [] = alone texts x ∷ []
with_word blocks texts marked x (p ∷ ps) = join_if (is_next marked x p) blocks texts x p ps

-- the pieces of words, with blocks and texts or without, where these addresses have labels
unfoldable pub pieces_of : Bool → Bool → (ℕ → Bool) → List (ℕ × ℕ) → List Piece
pieces_of blocks texts marked [] = []
pieces_of blocks texts marked (x ∷ xs) = with_word blocks texts marked x (pieces_of blocks texts marked xs)

-- a piece below 2 ^ 18
abbrev pub IsPlaced : Piece → Type 0
IsPlaced p = (address_of p < 2 ^ 18) × (behind p ≤ 2 ^ 18)

abbrev pub ArePlaced : List Piece → Type 0
ArePlaced [] = Unit {0}
ArePlaced (p ∷ ps) = IsPlaced p × ArePlaced ps
