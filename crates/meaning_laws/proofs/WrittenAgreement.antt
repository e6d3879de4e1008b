-- The two readers of a source that `macro` writes agree.
use Rattle.std.proofs.Common.{◌≡◌, ◌∙◌, sym, ap, subst, ℕ, ℤ, List, [], Result, Ok, Err}
use Rattle.mac_layout.specs.Faults.{Fault}
use Rattle.mac_asm.specs.Assembly.{Assembled, IsAssembly}
use Rattle.mac_asm.specs.Outcome.{outcome_of}
use Rattle.asm_laws.proofs.Told.{image-told}
use Rattle.meaning_laws.specs.WrittenSource.{Placed, CanBeWritten, MeansImage, image_of, written_text, pieces_of, table_of, lines_text}
use Rattle.meaning_laws.specs.WrittenLines.{IsWritten, HasImage, symbols_in}
use Rattle.meaning_laws.specs.Example.{Leaves}
use Rattle.meaning_laws.proofs.WrittenSources.{pieces_leave}
use Rattle.meaning_laws.proofs.WrittenReady.{written_ready, lines_ready, table_is}
use Rattle.meaning_laws.proofs.WrittenAssembly.{pieces_assemble}

pub means_image : (names : List Placed) (words : List (ℕ × ℕ)) (start : ℕ) → CanBeWritten names words start
    → MeansImage names words start (image_of words start)
means_image names words start can =
    pieces_leave (pieces_of names words) words start (written_ready names words start can) can.image.start_fits

pub assembles : (names : List Placed) (words : List (ℕ × ℕ)) (start : ℕ) → CanBeWritten names words start
    → IsAssembly (written_text names words start) (image_of words start)
assembles names words start can =
    pieces_assemble (pieces_of names words) words start (written_ready names words start can) can.image can.fit

image_in : Assembled → Result Assembled Fault → Assembled
image_in other (Ok image) = image
image_in other (Err fault) = other

pub readers_agree : (names : List Placed) (words : List (ℕ × ℕ)) (start : ℕ) (image : Assembled) → CanBeWritten names words start
    → outcome_of (written_text names words start) ≡ Ok image → MeansImage names words start image
unfolding image_in
readers_agree names words start image can comes =
    let own = image-told (written_text names words start) (image_of words start) (assembles names words start can) in
    let same : image_of words start ≡ image = ap (image_in image) (sym own ∙ comes) in
    subst (λ (i : Assembled). MeansImage names words start i) same (means_image names words start can)

pub assembly_meant : (names : List Placed) (words : List (ℕ × ℕ)) (start : ℕ) (image : Assembled) → CanBeWritten names words start
    → IsAssembly (written_text names words start) image → MeansImage names words start image
assembly_meant names words start image can is =
    readers_agree names words start image can (image-told (written_text names words start) image is)

pub lines_have_image : (text : List ℕ) (names : List Placed) (words : List (ℕ × ℕ)) (start : ℕ) → IsWritten text names words start
    → CanBeWritten names words start → HasImage text names words start
lines_have_image text names words start is can =
    let ready = lines_ready text names words start is can in
    let table : symbols_in names ≡ table_of is.pieces = ap symbols_in (sym is.names_are) ∙ table_is is.pieces in
    record {
      meant =
          subst (λ (t : List ℕ). Leaves (symbols_in names) [] t words start) (sym is.lines)
          (subst (λ (t : List (ℕ × ℤ)). Leaves t [] (lines_text start 0o140 is.pieces) words start) (sym table)
          (pieces_leave is.pieces words start ready can.image.start_fits));
      assembled =
          subst (λ (t : List ℕ). IsAssembly t (image_of words start)) (sym is.lines)
          (pieces_assemble is.pieces words start ready can.image can.fit);
    }
