-- A source with a label that stands later, a literal, the point and a start, with its image worked by hand: each word is
-- its halves in octal.
use Rattle.std.specs.Prelude.{ℕ, List, [], ◌∷◌, ◌++◌, codes}
use Rattle.word36.specs.Words.{joined}
use Rattle.mac_asm.specs.Assembly.{Assembled, by_address}

abbrev pub example_line : List ℕ → List ℕ
example_line text = text ++ 10 ∷ []

abbrev pub example_source : List ℕ
example_source =
    example_line (codes " LOC 200")
    ++ example_line (codes "A: MOVE 1,[5]")
    ++ example_line (codes " JRST B")
    ++ example_line (codes "B: .+1,,A")
    ++ example_line (codes " END A")

abbrev pub example_words : List (ℕ × ℕ)
example_words =
    (0o200, joined 0o200040 0o203)
    ∷ (0o201, joined 0o254000 0o202)
    ∷ (0o202, joined 0o203 0o200)
    ∷ (0o203, joined 0 5) ∷ []

abbrev pub example_image : Assembled
example_image = record { words = by_address example_words; start = 0o200 }
