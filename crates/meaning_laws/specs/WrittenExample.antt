-- A source that `macro` wrote, with the image and the labels that it wrote it for.
use Rattle.std.specs.Prelude.{ℕ, List, [], ◌∷◌, ◌++◌, codes}
use Rattle.meaning_laws.specs.Example.{example_line}
use Rattle.meaning_laws.specs.WrittenSource.{Placed}

abbrev pub written_example : List ℕ
written_example =
    example_line (codes "A: B: BLOCK 3")
    ++ (example_line (codes "C: 000000,,000000")
    ++ (example_line (codes " 000000,,000005")
    ++ (example_line (codes " 000000,,000000")
    ++ (example_line (codes " LOC 203")
    ++ (example_line (codes "D: E: 000140,,000140")
    ++ (example_line (codes " BLOCK 2")
    ++ (example_line (codes "F:")
    ++ (example_line (codes " LOC 300")
    ++ (example_line (codes "G:")
    ++ example_line (codes " END 140"))))))))))

abbrev pub placed_at : ℕ → List ℕ → Placed
placed_at place name = record { place = place; name = name }

abbrev pub written_names : List Placed
written_names =
    placed_at 0o140 (codes "A") ∷ placed_at 0o140 (codes "B") ∷ placed_at 0o143 (codes "C") ∷ placed_at 0o203 (codes "D")
    ∷ placed_at 0o203 (codes "E") ∷ placed_at 0o206 (codes "F") ∷ placed_at 0o300 (codes "G") ∷ []

abbrev pub written_image : List (ℕ × ℕ)
written_image =
    (0o140, 0) ∷ (0o141, 0) ∷ (0o142, 0) ∷ (0o143, 0) ∷ (0o144, 5) ∷ (0o145, 0)
    ∷ (0o203, 0o140000140) ∷ (0o204, 0) ∷ (0o205, 0) ∷ []
