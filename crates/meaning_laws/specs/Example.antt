-- Sources with their words worked by hand: one with a macro, a repetition and a condition, one with the rounds of IRP, a default and a
-- name that is made, and one with rounds of IRPC that STOPI ends.
use Rattle.std.specs.Prelude.{◌≡◌, ℕ, ℤ, pos, List, [], ◌∷◌, ◌++◌, Ok, codes}
use Rattle.mac_text.specs.Names.{symbol_of}
use Rattle.macro_meaning.specs.Meaning.{Walk, IsLeft, meaning}

abbrev pub example_line : List ℕ → List ℕ
example_line text = text ++ 10 ∷ []

abbrev pub example_source : List ℕ
example_source =
    example_line (codes " DEFINE D(X)<X>")
    ++ example_line (codes "A: D 3")
    ++ example_line (codes " REPEAT 2,<2>")
    ++ example_line (codes " IFE 0,<1>")
    ++ example_line (codes " END A")

abbrev pub example_words : List (ℕ × ℕ)
example_words = (0o140, 3) ∷ (0o141, 2) ∷ (0o142, 2) ∷ (0o143, 1) ∷ []

abbrev pub example_table : List (ℕ × ℤ)
example_table = (symbol_of (codes "A"), pos 0o140) ∷ []

-- E has X and Y in the two halves of a word for each X, and then a label with its own place
abbrev pub rounds_source : List ℕ
rounds_source =
    example_line (codes " DEFINE E(X,Y<3>,%Z)<IRP X,<X,,Y")
    ++ example_line (codes ">")
    ++ example_line (codes "%Z: %Z")
    ++ example_line (codes ">")
    ++ example_line (codes " E <1,2>")
    ++ example_line (codes " END")

abbrev pub rounds_words : List (ℕ × ℕ)
rounds_words = (0o140, 0o1000003) ∷ (0o141, 0o2000003) ∷ (0o142, 0o142) ∷ []

abbrev pub rounds_table : List (ℕ × ℤ)
rounds_table = (symbol_of (codes "..0001"), pos 0o142) ∷ []

-- S has a word for each digit, up to 2
abbrev pub stopped_source : List ℕ
stopped_source =
    example_line (codes " DEFINE S(X)<IRPC X,<X")
    ++ example_line (codes "IFE X-2,<STOPI>")
    ++ example_line (codes ">>")
    ++ example_line (codes " S 123")
    ++ example_line (codes " END")

abbrev pub stopped_words : List (ℕ × ℕ)
stopped_words = (0o140, 1) ∷ (0o141, 2) ∷ []

-- by this table and these places of pools a source is judged, and has these words and this start
abbrev pub Leaves : List (ℕ × ℤ) → List ℤ → List ℕ → List (ℕ × ℕ) → ℕ → Type 0
Leaves table pools source words start = (w : Walk) × (meaning table pools source ≡ Ok w) × IsLeft table w words start
