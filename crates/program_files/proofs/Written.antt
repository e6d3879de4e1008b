-- Programs that are all in a script.
use Rattle.std.proofs.Common.{◌≡◌, ◌≤◌, ◌∙◌, ap, refl, sym, ℕ, min, List, [], ◌∷◌, ◌++◌, append-nil, drop, length, arith, inl, inr}
use Rattle.std.proofs.lemmas.Bool.{cases_lt}
use Rattle.std.proofs.lemmas.List.{drop_all}
use Rattle.source_labels.specs.declared.sources.Program.{Program}
use Rattle.program_files.specs.Recorded.{programs_text}
use Rattle.program_files.specs.declared.files.ProgramFile.{ProgramFile}

no-programs : (n : ℕ) (fs : List ProgramFile) → programs_text n fs [] ≡ []
no-programs n [] = refl
no-programs n (f ∷ fs) = refl

none-left : (n i : ℕ) (fs : List ProgramFile) (ps : List Program) → min (length fs) (length ps) ≤ i
    → programs_text n (drop i fs) (drop i ps) ≡ []
none-left n i fs ps end = elim (cases_lt i (length fs)) [
  | inl more ↦ ap (programs_text n (drop i fs)) (drop_all i ps (omega (arith, end, more))) ∙ no-programs n (drop i fs)
  | inr past ↦ ap (λ l. programs_text n l (drop i ps)) (drop_all i fs past)
]

pub all-written : (n i : ℕ) (fs : List ProgramFile) (ps : List Program) (out whole : List ℕ) → min (length fs) (length ps) ≤ i
    → out ++ programs_text n (drop i fs) (drop i ps) ≡ whole → out ≡ whole
all-written n i fs ps out whole end before = sym (append-nil out) ∙ sym (ap (λ l. out ++ l) (none-left n i fs ps end)) ∙ before
