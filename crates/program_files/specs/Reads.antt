-- What an answer says of the image that was read, and of a source.
use Rattle.std.specs.Prelude.{◌≡◌, ℕ, List, [], ◌∷◌, ◌++◌, ◌⊎◌, Option, None, Some, Result, Ok, Err, IsOk, IsErr, IsSome}
use Rattle.mac_asm.specs.Outcome.{outcome_of}
use Rattle.source_check.specs.Same.{ComesTo}
use Rattle.source_labels.specs.Places.{ArePlacesOf}
use Rattle.source_labels.specs.Programs.{source_for}
use Rattle.source_labels.specs.declared.places.Places.{Places}
use Rattle.source_labels.specs.declared.sources.Program.{Program}
use Rattle.image_files.specs.Loads.{loaded}
use Rattle.image_files.specs.Saves.{Loaded}
use Rattle.image_files.specs.declared.packings.Packing.{Packing}
use Rattle.image_files.specs.declared.faults.ImageFault.{ImageFault}
use Rattle.image_files.specs.declared.fits.Wanted.TheVariants as wants
use Rattle.image_files.specs.CoreImages.{image_in}
use Rattle.image_files.specs.Fits.{packing_that_fits}
use Rattle.image_files.specs.Texts.{fault_text}
use Rattle.source_labels.specs.declared.sources.Assembled.{Assembled}
use Rattle.source_labels.specs.declared.sources.Assembled.TheVariants as variants
use Rattle.program_files.specs.declared.files.ProgramFile.{ProgramFile}
use Rattle.program_files.specs.Files.{IsImageName, IsSourceName}

-- what is said of an image that was read, or of what is wrong with its file, which can be read in another packing
abbrev pub told : List ℕ → Option Packing → Result Loaded ImageFault → Result Loaded (List ℕ)
told file other (Ok image) = Ok image
told file other (Err fault) = Err (fault_text file fault other)

-- a program with the words and the start of the image, or the lines on what is wrong; where there was no memory nothing is said
abbrev pub Answers : {E : Type 0} → Result Assembled E → List ℕ → Option Packing → Result Loaded ImageFault → Type 0
Answers (Ok (variants.Program program)) file other read = read ≡ Ok (loaded program.image)
Answers (Ok (variants.Refused text)) file other read = told file other read ≡ Err text.items
Answers (Err e) file other read = Unit {0}

-- the same of the bytes of a file of this name, in a packing
abbrev pub AnswersImage : {E : Type 0} → Result Assembled E → List ℕ → Packing → List ℕ → Type 0
AnswersImage result file from bytes = Answers result file (packing_that_fits wants.Image bytes) (image_in from bytes)

-- a program has the labels of a source, and its literals
pub record HasLabelsOf (program : Program) (source : List ℕ) : Type 0 where
  pub places : Places
  pub there : ArePlacesOf places source program.image.words.items
  pub labels : program.places.labels ≡ places.labels
  pub literals : program.places.literals ≡ places.literals

-- the program of a source with these bytes has exactly the image, and the labels, of the source that it stands for, which is
-- this one if it has an image in the subset
pub record IsProgramOfSource (program : Program) (own : List ℕ) : Type 0 where
  pub image : ComesTo (source_for program own) program.image
  pub labels : HasLabelsOf program (source_for program own)
  pub subset : IsOk (outcome_of own) → program.written ≡ None

-- such a program, or a source is refused that has no image in the subset; if memory ran out nothing is said
abbrev pub AnswersSource : {E : Type 0} → Result Assembled E → List ℕ → Type 0
AnswersSource (Ok (variants.Program program)) own = IsProgramOfSource program own
AnswersSource (Ok (variants.Refused text)) own = IsErr (outcome_of own)
AnswersSource (Err e) own = Unit {0}

-- a source was written that the program stands for, whatever that of its file is; it has exactly the program's image and labels
pub record HasWritten (program : Program) : Type 0 where
  pub written : IsSome program.written
  pub image : (own : List ℕ) → ComesTo (source_for program own) program.image
  pub labels : (own : List ℕ) → HasLabelsOf program (source_for program own)

-- a program, if there is one, has such a source
abbrev pub HandsOver : {E : Type 0} → Result Assembled E → Type 0
HandsOver (Ok (variants.Program program)) = HasWritten program
HandsOver (Ok (variants.Refused text)) = Unit {0}
HandsOver (Err e) = Unit {0}

-- ---- several files

-- the program of a file, in a packing if it is a core image
pub record IsProgramOf (from : Packing) (file : ProgramFile) (program : Program) : Type 0 where
  pub image : IsImageName file.source.file.now → image_in from file.source.text.items ≡ Ok (loaded program.image)
  pub source : IsSourceName file.source.file.now → IsProgramOfSource program file.source.text.items

-- the programs of some files, one for each
abbrev pub AreProgramsOf : Packing → List ProgramFile → List Program → Type 0
AreProgramsOf from [] [] = Unit {0}
AreProgramsOf from (file ∷ files) (program ∷ programs) = IsProgramOf from file program × AreProgramsOf from files programs
AreProgramsOf from [] (program ∷ programs) = ⊥
AreProgramsOf from (file ∷ files) [] = ⊥

-- a program, if there is one, was added after the others, or none was
abbrev pub IsKept : Option Program → List Program → List Program → Type 0
IsKept None old new = new ≡ old
IsKept (Some program) old new = (new ≡ old) ⊎ (new ≡ old ++ program ∷ [])
