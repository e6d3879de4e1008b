-- Numbers as the machine's manuals write them: in octal, a word as its two halves. A text is the list of its ASCII codes.
use Rattle.std.specs.Prelude.{ℕ, zero, suc, ◌+◌, ◌/◌, ◌%◌, List, [], ◌∷◌, ◌++◌, codes, nat_lt, if◌then◌else◌}
use Rattle.word36.specs.Words.{left_half, right_half}

-- the character of the last octal digit of n: 48 is that of `0`
abbrev pub last_digit : ℕ → ℕ
last_digit n = 48 + n % 8

-- the last octal digits of n, so many, the highest first
unfoldable pub octal : ℕ → ℕ → List ℕ
octal zero n = []
octal (suc width) n = octal width (n / 8) ++ last_digit n ∷ []

-- the octal digits of n without leading zeros, at least one and at most so many
unfoldable pub octal_within : ℕ → ℕ → List ℕ
octal_within zero n = []
octal_within (suc width) n = (if nat_lt n 8 then [] else octal_within width (n / 8)) ++ last_digit n ∷ []

-- the octal digits of a number below 2 ^ 64, without leading zeros: 22 digits hold each
abbrev pub octal_text : ℕ → List ℕ
octal_text n = octal_within 22 n

-- a word: six digits of the left half, two commas, six digits of the right half
abbrev pub word_text : ℕ → List ℕ
word_text w = octal 6 (left_half w) ++ codes ",," ++ octal 6 (right_half w)
