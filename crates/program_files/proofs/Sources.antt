-- Lemmas on what comes of a source.
use Rattle.std.proofs.Common.{◌≡◌, ◌<◌, ◌≤◌, ◌+◌, ◌∙◌, ℕ, List, [], ◌∷◌, ◌++◌, Vec, Global, Option, IfSome, inl, inr, length, length-append, take, get_or, arith, Some, None, Result, Ok, Err, IsOk, IsErr, IsSome, subst, sym, ap, refl}
use Rattle.std.proofs.lemmas.Bool.{false≢true}
use Rattle.std.proofs.lemmas.List.{take_more}
use Rattle.mac_asm.specs.Outcome.{outcome_of}
use Rattle.source_check.specs.Same.{ComesTo}
use Rattle.source_labels.specs.Places.{ArePlacesOf}
use Rattle.source_labels.specs.declared.places.Places.{Places}
use Rattle.source_labels.specs.declared.sources.Program.{Program}
use Rattle.source_labels.specs.declared.sources.Assembled.{Assembled}
use Rattle.source_labels.specs.declared.sources.Assembled.TheVariants as variants
use Rattle.source_labels.specs.Programs.{source_for, written_or}
use Rattle.image_files.specs.declared.packings.Packing.{Packing}
use Rattle.program_files.specs.declared.files.ProgramFile.{ProgramFile}
use Rattle.program_files.specs.Reads.{AnswersSource, AreProgramsOf, HandsOver, HasLabelsOf, HasWritten, IsKept, IsProgramOf, IsProgramOfSource}

-- a program with no other source in its place comes of that of its file
pub own_source : (program : Program) (own : List ℕ) → program.written ≡ None → ComesTo own program.image
    → ArePlacesOf program.places own program.image.words.items → IsProgramOfSource program own
own_source program own none comes there =
    let same : source_for program own ≡ own = ap (written_or own) none in
    record {
      image = subst (λ text. ComesTo text program.image) (sym same) comes;
      labels = subst (HasLabelsOf program) (sym same) (record { places = program.places; there = there; labels = refl; literals = refl });
      subset = λ right. none;
    }

-- a program for which a source was written, with the places of that source, and other pools and numbers
pub has_written : (program : Program) (text : Vec ℕ Global) (places : Places) → program.written ≡ Some text
    → ComesTo text.items program.image → ArePlacesOf places text.items program.image.words.items
    → program.places.labels ≡ places.labels → program.places.literals ≡ places.literals → HasWritten program
has_written program text places is comes there labels literals =
    let same : (own : List ℕ) → source_for program own ≡ text.items = λ own. ap (written_or own) is in
    record {
      written = subst (λ w. IsSome w) (sym is) refl;
      image = λ own. subst (λ t. ComesTo t program.image) (sym (same own)) comes;
      labels = λ own. subst (HasLabelsOf program) (sym (same own))
          (record { places = places; there = there; labels = labels; literals = literals });
    }

not_both : {A E : Type 0} (outcome : Result A E) → IsErr outcome → IsOk outcome → ⊥
not_both (Ok x) wrong right = false≢true wrong
not_both (Err e) wrong right = false≢true right

-- what is made of a source that comes to no image itself
pub other_source : {E : Type 0} (result : Result Assembled E) (own : List ℕ) → IsErr (outcome_of own) → HandsOver result →
    AnswersSource result own
other_source (Ok (variants.Program program)) own wrong handed = record {
  image = handed.image own;
  labels = handed.labels own;
  subset = λ right. absurd (not_both (outcome_of own) wrong right);
}
other_source (Ok (variants.Refused text)) own wrong handed = wrong
other_source (Err e) own wrong handed = tt

-- ---- several files

-- a file and its program more
pub one_more : (from : Packing) (files : List ProgramFile) (programs : List Program) (file : ProgramFile) (program : Program)
    → AreProgramsOf from files programs → IsProgramOf from file program → AreProgramsOf from (files ++ file ∷ []) (programs ++ program ∷ [])
one_more from [] [] file program all here = (here, tt)
one_more from [] (p ∷ programs) file program all here = absurd all
one_more from (f ∷ files) [] file program all here = absurd all
one_more from (f ∷ files) (p ∷ programs) file program all here = (all.0, one_more from files programs file program all.1 here)

-- a file more, with its program or with none
pub next : (from : Packing) (files : List ProgramFile) (at : ℕ) (programs new : List Program) (found : Option Program) (file : ProgramFile)
    → at < length files → file ≡ get_or files at file → IfSome found (IsProgramOf from file) → IsKept found programs new
    → length programs ≤ at → (length programs ≡ at → AreProgramsOf from (take at files) programs)
    → (length new ≤ at + 1) × (length new ≡ at + 1 → AreProgramsOf from (take (at + 1) files) new)
next from files at programs new None file low here is kept few all =
    let same : length new ≡ length programs = ap length kept in
    (omega (arith, same, few), λ many. absurd (omega (arith, same, few, many)))
next from files at programs new (Some program) file low here is (inl kept) few all =
    let same : length new ≡ length programs = ap length kept in
    (omega (arith, same, few), λ many. absurd (omega (arith, same, few, many)))
next from files at programs new (Some program) file low here is (inr kept) few all =
    let more : length new ≡ length programs + 1 = ap length kept ∙ length-append programs (program ∷ []) in
    let first : take (at + 1) files ≡ take at files ++ file ∷ [] =
    take_more files at file low ∙ ap (λ f. take at files ++ f ∷ []) (sym here) in (
      omega (arith, more, few),
      λ many. subst (λ fs. AreProgramsOf from fs new) (sym first)
          (subst (AreProgramsOf from (take at files ++ file ∷ [])) (sym kept)
          (one_more from (take at files) programs file program (all (omega (arith, more, many))) is)),
    )
